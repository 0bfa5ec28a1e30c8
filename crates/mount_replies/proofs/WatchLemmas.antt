-- While the pipes that parked reads wait for are dry, no read is due.
use Rattle.std.proofs.Common.{◌≡◌, ℕ, suc, zero, ◌-◌, ◌==◌, ◌<◌, ◌≤◌, ℤ, Bool, true, false, not, ◌&&◌, ◌||◌, nat_lt, is_some, IfSome, List, [], ◌∷◌, length, get_or, set, All, Option, Some, None, Result, Ok, Err, refl, sym, ap, subst, ◌∙◌, arith, eqb-true, ltb-true}
use Rattle.std.proofs.lemmas.Bool.{eqb-false, ltb-false}
use Rattle.std.proofs.lemmas.List.{append-nil, get_or-set_other, get_or-set_same, get_or_past, length-set}
use Rattle.std.proofs.lemmas.List.Elements.{All-contains, All-get_or, All-head, All-tail, All-weaker}
use Rattle.std.specs.List.{list_any, position}
use Rattle.trace_command.specs.Requests.{Emission, Request}
use Rattle.trace_command.specs.declared.command.Config.{Config}
use Rattle.trace_command.specs.declared.command.Reply.{Reply as Answer}
use Rattle.trace_command.specs.declared.refusal.Refusal.{Refusal}
use Rattle.trace_format.specs.Catalogs.{event_of}
use Rattle.trace_format.specs.Definitions.{Definition}
use Rattle.trace_format.specs.Values.{pairs_given}
use Rattle.trace_format.specs.declared.pair.Pair.{Pair}
use Rattle.tracer_specification.specs.Emissions.{emitted}
use Rattle.tracer_specification.specs.IdleEvents.{wants}
use Rattle.tracer_specification.specs.Settings.{declared_events, is_tracing}
use Rattle.tracer_specification.specs.Waiting.{waiting}
use Rattle.trace_instance.specs.Instances.{InstanceSeen, InstanceStandsFor}
use Rattle.trace_instance.specs.WantedEvents.{wants_event}
use Rattle.tracer_state.specs.ValueEmissions.{emission_by, emission_of}
use Rattle.tracer_state.specs.declared.emission.ValuesEmission.{ValuesEmission}
use Rattle.tracer.proofs.LiveMasks.{wants-told}
use Rattle.tracer.specs.LiveSeen.{LiveSeen}
use Rattle.file_list.specs.declared.file.File.{File}
use Rattle.mount_tree.proofs.AfterRequests.{leaving}
use Rattle.mount_tree.specs.Children.{is_there}
use Rattle.mount_tree.specs.NodePaths.{owner_name}
use Rattle.mount_tree.specs.Scenes.{SceneSeen}
use Rattle.mount_tree.specs.ScenesAfter.{scene_after}
use Rattle.mount_tree.specs.declared.node.Node.TheVariants as nodes
use Rattle.mount_tree.specs.declared.node.Owner.{Owner}
use Rattle.mount_replies.specs.Calls.{IsCommanded, noting_called}
use Rattle.mount_replies.specs.Mounted.{HasLedTo, IsMounted, MountSeen, past_after, service_of, terms_of}
use Rattle.mount_replies.specs.Owed.{Owed, is_due, is_ready, owed}
use Rattle.mount_replies.specs.Pipes.{ends, is_dry, is_no, is_used_up, pipe_meant, waits_at}
use Rattle.mount_replies.specs.Services.{OpenSeen, Service, Terms, file_at, has_wakeup, scene_of}
use Rattle.mount_replies.specs.Watches.{AreKnown, Covers, IsOpenIn, IsUnwanted, IsUnwantedBy, IsWatched, WaitsIn, WatchSeen}
use Rattle.mount_replies.specs.declared.dry_pipes.DryPipe.{DryPipe}
use Rattle.mount_replies.specs.declared.parked.Parked.{Parked}
use Rattle.mount_replies.specs.declared.wanted_events.Wanted.{Wanted}
use Rattle.mount_replies.specs.declared.wanted_events.Wanted.TheVariants.{Nowhere, Unknown}
use Rattle.mount_replies.specs.private.Commandings.{HasCommanded}
use Rattle.mount_replies.specs.private.DryPipes.{AreDryNow, IsDryNow}
use Rattle.mount_replies.proofs.Firsts.{no-first}
use Rattle.mount_replies.proofs.PipeLemmas.{not-ready}
use Rattle.mount_replies.proofs.QuietLemmas.{none-due, still-none}
use Rattle.mount_replies.proofs.UnwantedEmissions.{IsUnwantedHere, unwanted-emitted, waiting-same, wants-stay}

-- a file that gave nothing yet does not end, nor one of an instance that records
no-end : (said read now : Bool) → now ≡ said → (said || not read) ≡ true → not (read && not now) ≡ true
no-end said false now same waits = refl
no-end true true true same waits = refl
no-end true true false same waits = absurd (cc)
no-end false true now same waits = absurd (cc)

-- a read of a file that waits in these pipes waits while they are dry
file-waits : (past : List Request) (mount : MountSeen) (slots : List (Option DryPipe)) (file : OpenSeen) → HasLedTo past mount → AreDryNow mount slots
    → WaitsIn slots file → waits_at (terms_of mount) (service_of past mount) (Some file) ≡ true
file-waits past mount slots file led dry waits =
    let g = terms_of mount in
    let s = service_of past mount in
    let now = All-contains (λ (slot : Option DryPipe). IfSome slot (IsDryNow past mount)) slots
    (Some (record { owner = file.owner; file = file.file; tracing = waits.tracing })) (dry past led) waits.slot in
    let same : is_tracing (owner_name (scene_of g s) file.owner) past ≡ waits.tracing =
    ap (λ (scene : SceneSeen). is_tracing (owner_name scene file.owner) past) (sym led.scene) ∙ sym now.1 in
    let goes : not (ends g s file) ≡ true =
    no-end waits.tracing file.has_read (is_tracing (owner_name (scene_of g s) file.owner) past) same waits.waits in
    rw (waits.used_up, now.0, goes) refl

slot-waits : (past : List Request) (mount : MountSeen) (slots : List (Option DryPipe)) (slot : Option OpenSeen) → HasLedTo past mount
    → AreDryNow mount slots → IsOpenIn slots slot → waits_at (terms_of mount) (service_of past mount) slot ≡ true
slot-waits past mount slots None led dry is = absurd is
slot-waits past mount slots (Some file) led dry is = file-waits past mount slots file led dry is

none-due-of : (past : List Request) (mount : MountSeen) (slots : List (Option DryPipe)) (reads : List Parked) → HasLedTo past mount
    → AreDryNow mount slots → Covers mount.files reads slots → list_any (is_due (terms_of mount) (service_of past mount)) reads ≡ false
none-due-of past mount slots [] led dry covers = refl
none-due-of past mount slots (read ∷ reads) led dry covers =
    let first = All-head (IsWatched mount.files slots) read reads covers in
    let waits = slot-waits past mount slots (file_at read.handle mount.files) led dry first.1 in
    let rest = none-due-of past mount slots reads led dry (All-tail (IsWatched mount.files slots) read reads covers) in
    rw (first.0, waits, rest) refl

-- nothing is owed while they are dry, if no poll is to be told
pub none-while-dry : (past : List Request) (mount : MountSeen) (slots : List (Option DryPipe)) → HasLedTo past mount
    → Covers mount.files mount.parked slots → AreDryNow mount slots → list_any has_wakeup mount.files ≡ false
    → false ≡ is_some (owed (terms_of mount) (service_of past mount))
none-while-dry past mount slots led covers dry quiet =
    let g = terms_of mount in
    let s = service_of past mount in
    let ready : position (is_ready g s) mount.files ≡ None = no-first (is_ready g s) mount.files (not-ready g s mount.files quiet) in
    let due : position (is_due g s) mount.parked ≡ None =
    no-first (is_due g s) mount.parked (none-due-of past mount slots mount.parked led dry covers) in
    rw (ready, due) refl

-- ---- emissions of events that no instance of the pipes wants

module _ (g : Terms) (s : Service) (name : List ℕ) (cpu : ℕ) (pid : ℤ) (pairs : List Pair) where
  abbrev emission : Request
  emission = Emission name cpu pid pairs

  abbrev after : Service
  after = record s { past = emission ∷ s.past }

  -- the instance of a pipe does not want what is emitted
  abbrev Leaves : Option DryPipe → Type 0
  Leaves None = Unit {0}
  Leaves (Some pipe) = IsUnwantedHere (owner_name (scene_of g s) pipe.owner) s.past (emitted s.past emission)

  scene-same : scene_of g after ≡ scene_of g s
  scene-same = leaving g.config.cpus s.past emission refl refl refl

  dry-same : (owner : Owner) (file : File) → IsUnwantedHere (owner_name (scene_of g s) owner) s.past (emitted s.past emission)
      → is_dry g after owner file ≡ is_dry g s owner file
  dry-same owner file is =
      ap (λ (scene : SceneSeen). is_there scene (nodes.File owner file)
      && is_no (waiting g.config (emission ∷ s.past) (owner_name scene owner) (pipe_meant scene file))) scene-same
      ∙ ap (λ (told : Result Bool Refusal). is_there (scene_of g s) (nodes.File owner file) && is_no told)
      (waiting-same s.past name cpu pid pairs g.config (owner_name (scene_of g s) owner) (pipe_meant (scene_of g s) file) is)

  ends-same : (file : OpenSeen) → ends g after file ≡ ends g s file
  ends-same file = ap (λ (scene : SceneSeen). file.has_read && not (is_tracing (owner_name scene file.owner) (emission ∷ s.past))) scene-same

  waits-same : (slots : List (Option DryPipe)) (slot : Option OpenSeen) → All Leaves slots → IsOpenIn slots slot → waits_at g after slot ≡ waits_at g s slot
  waits-same slots None all is = absurd is
  waits-same slots (Some file) all is =
      let leaves = All-contains Leaves slots (Some (record { owner = file.owner; file = file.file; tracing = is.tracing })) all is.slot in
      ap (λ (dry : Bool). is_used_up file && dry && not (ends g after file)) (dry-same file.owner file.file leaves)
      ∙ ap (λ (end : Bool). is_used_up file && is_dry g s file.owner file.file && not end) (ends-same file)

  due-same : (slots : List (Option DryPipe)) (reads : List Parked) → All Leaves slots → Covers s.files reads slots
      → list_any (is_due g after) reads ≡ list_any (is_due g s) reads
  due-same slots [] all covers = refl
  due-same slots (read ∷ reads) all covers =
      let first = All-head (IsWatched s.files slots) read reads covers in
      let rest = due-same slots reads all (All-tail (IsWatched s.files slots) read reads covers) in
      ap (λ (waits : Bool). (read.interrupted || not waits) || list_any (is_due g after) reads) (waits-same slots (file_at read.handle s.files) all first.1)
      ∙ ap (λ (due : Bool). is_due g s read || due) rest

  owed-after : (slots : List (Option DryPipe)) → All Leaves slots → Covers s.files s.parked slots → list_any has_wakeup s.files ≡ false
      → owed g s ≡ None → owed g after ≡ None
  owed-after slots all covers quiet none =
      still-none g after (due-same slots s.parked all covers ∙ none-due g s none) (not-ready g after s.files quiet)

-- where nothing was owed, nothing is after one
pub quiet-after : (past : List Request) (old : MountSeen) (live : LiveSeen) (slots : List (Option DryPipe)) (emission : ValuesEmission) (result : Result Answer Refusal)
    → IsMounted past old → live.config ≡ old.live.config → old.owes ≡ false → Covers old.files old.parked slots → list_any has_wakeup old.files ≡ false
    → IsUnwanted old.live.config.cpus past slots emission.event
    → old.owes ≡ is_some (owed (terms_of (record old { live = live }))
    (service_of (past_after result (emission_by (declared_events past) emission) past) (record old { live = live })))
quiet-after past old live slots emission result mounted config owes covers quiet unwanted =
    owes ∙ ap (λ (o : Option Owed). is_some o) (sym (ap (λ (c : Config). owed (record { config = c; uid = old.uid; gid = old.gid; mode = old.mode })
    (service_of (past_after result (emission_by (declared_events past) emission) past) old)) config
    ∙ now (event_of (declared_events past) emission.event) result refl))
  where
    g : Terms
    g = terms_of old

    s : Service
    s = service_of past old

    none : (o : Option Owed) → false ≡ is_some o → o ≡ None
    none None is = refl
    none (Some o) is = absurd (cc)

    before : owed g s ≡ None
    before = none (owed g s) (sym owes ∙ mounted.owes)

    leaves-none : event_of (declared_events past) emission.event ≡ None → (slot : Option DryPipe)
        → IsUnwantedBy old.live.config.cpus past emission.event slot → Leaves g s [] emission.cpu emission.pid [] slot
    leaves-none is None unwanted_by = tt
    leaves-none is (Some pipe) unwanted_by =
        unwanted-emitted old.live.config past (owner_name (scene_of g s) pipe.owner) emission.event emission.cpu emission.pid emission.values.now None
        mounted.lives.are_done is unwanted_by

    leaves-some : (event : Definition) → event_of (declared_events past) emission.event ≡ Some event → (slot : Option DryPipe)
        → IsUnwantedBy old.live.config.cpus past emission.event slot
        → Leaves g s event.name emission.cpu emission.pid (pairs_given event.fields emission.values.now) slot
    leaves-some event is None unwanted_by = tt
    leaves-some event is (Some pipe) unwanted_by =
        unwanted-emitted old.live.config past (owner_name (scene_of g s) pipe.owner) emission.event emission.cpu emission.pid emission.values.now (Some event)
        mounted.lives.are_done is unwanted_by

    now : (found : Option Definition) (answer : Result Answer Refusal) → event_of (declared_events past) emission.event ≡ found
        → owed g (service_of (past_after answer (emission_of found emission.cpu emission.pid emission.values.now) past) old) ≡ None
    now found (Err refusal) is = before
    now None (Ok answer) is =
        owed-after g s [] emission.cpu emission.pid [] slots
        (All-weaker (IsUnwantedBy old.live.config.cpus past emission.event) (Leaves g s [] emission.cpu emission.pid []) (leaves-none is) slots unwanted)
        covers quiet before
    now (Some event) (Ok answer) is =
        let pairs = pairs_given event.fields emission.values.now in
        owed-after g s event.name emission.cpu emission.pid pairs slots
        (All-weaker (IsUnwantedBy old.live.config.cpus past emission.event) (Leaves g s event.name emission.cpu emission.pid pairs) (leaves-some event is) slots
        unwanted)
        covers quiet before

-- what the call comes to
pub kept-quiet : (limit : ℕ) (past : List Request) (old mid : MountSeen) (request : Request) (result : Result Answer Refusal)
    → HasCommanded limit past old mid request result (noting_called old.scene request result)
    → mid.owes ≡ is_some (owed (terms_of mid) (service_of (past_after result request past) mid)) → IsCommanded limit past old mid request result
kept-quiet limit past old mid request result is owes = record {
  call = is.call;
  mounted = record { lives = is.mounted.lives; scene = is.mounted.scene; owes = owes };
  terms = is.terms;
  files = is.files;
  parked = is.parked;
  errors = is.errors;
  counted = is.counted;
}

-- ---- what is known of events

still-known : (cpus : ℕ) (past : List Request) (name : List ℕ) (cpu : ℕ) (pid : ℤ) (pairs : List Pair) (watch : WatchSeen) → AreKnown cpus past watch
    → AreKnown cpus (Emission name cpu pid pairs ∷ past) watch
still-known cpus past name cpu pid pairs watch known number nowhere =
    All-weaker (IsUnwantedBy cpus past number) (IsUnwantedBy cpus (Emission name cpu pid pairs ∷ past) number) each watch.slots (known number nowhere)
  where
    each : (slot : Option DryPipe) → IsUnwantedBy cpus past number slot → IsUnwantedBy cpus (Emission name cpu pid pairs ∷ past) number slot
    each None is = tt
    each (Some pipe) is = λ event there.
        let before : event_of (declared_events past) number ≡ Some event =
        ap (λ (events : List Definition). event_of events number) (sym (append-nil (declared_events past))) ∙ there in
        ap (λ (scene : SceneSeen). wants (owner_name scene pipe.owner) event (Emission name cpu pid pairs ∷ past))
        (leaving cpus past (Emission name cpu pid pairs) refl refl refl)
        ∙ wants-stay past name cpu pid pairs (owner_name (scene_after cpus past) pipe.owner) event (is event before)

-- it stays true over an emission by values
pub known-after : (cpus : ℕ) (past : List Request) (watch : WatchSeen) (emission : ValuesEmission) (result : Result Answer Refusal) → AreKnown cpus past watch
    → AreKnown cpus (past_after result (emission_by (declared_events past) emission) past) watch
known-after cpus past watch emission result known = by (event_of (declared_events past) emission.event) result
  where
    by : (found : Option Definition) (answer : Result Answer Refusal)
        → AreKnown cpus (past_after answer (emission_of found emission.cpu emission.pid emission.values.now) past) watch
    by found (Err refusal) = known
    by None (Ok answer) = still-known cpus past [] emission.cpu emission.pid [] watch known
    by (Some event) (Ok answer) =
        still-known cpus past event.name emission.cpu emission.pid (pairs_given event.fields emission.values.now) watch known

-- nothing is known
pub nothing-known : (cpus : ℕ) (past : List Request) (watch : WatchSeen) → All (λ (wanted : Wanted). wanted ≡ Unknown) watch.events → AreKnown cpus past watch
nothing-known cpus past watch unknown number nowhere = absurd (by (nat_lt number (length watch.events)) refl)
  where
    by : (less : Bool) → nat_lt number (length watch.events) ≡ less → ⊥
    by true is =
        let none : get_or watch.events number Unknown ≡ Unknown =
        All-get_or (λ (wanted : Wanted). wanted ≡ Unknown) watch.events number Unknown (ltb-true number (length watch.events) is) unknown in
        cc
    by false is =
        let none : get_or watch.events number Unknown ≡ Unknown = get_or_past watch.events number Unknown (ltb-false number (length watch.events) is) in cc

-- one more event is known
pub known-noted : (cpus : ℕ) (past : List Request) (slots : List (Option DryPipe)) (events : List Wanted) (number : ℕ) (wanted : Wanted)
    → AreKnown cpus past (record { slots = slots; events = events }) → (wanted ≡ Nowhere → IsUnwanted cpus past slots number)
    → AreKnown cpus past (record { slots = slots; events = set events number wanted })
known-noted cpus past slots events number wanted known is other nowhere = by (other == number) refl
  where
    -- the number is one that is kept
    kept : (less : Bool) → nat_lt number (length events) ≡ less → get_or (set events number wanted) number Unknown ≡ Nowhere → wanted ≡ Nowhere
    kept true less told = sym (get_or-set_same events number wanted Unknown (ltb-true number (length events) less)) ∙ told
    kept false less told =
        let beyond = ltb-false number (length events) less in
        let none : get_or (set events number wanted) number Unknown ≡ Unknown =
        get_or_past (set events number wanted) number Unknown (omega (arith, beyond, length-set events number wanted)) in
        absurd (cc)

    by : (same : Bool) → (other == number) ≡ same → IsUnwanted cpus past slots other
    by true same =
        let one : other ≡ number = eqb-true other number same in
        let here : get_or (set events number wanted) number Unknown ≡ Nowhere =
        subst (λ (n : ℕ). get_or (set events number wanted) n Unknown ≡ Nowhere) one nowhere in
        subst (λ (n : ℕ). IsUnwanted cpus past slots n) (sym one) (is (kept (nat_lt number (length events)) refl here))
    by false same = known other (sym (get_or-set_other events number other wanted Unknown (eqb-false other number same)) ∙ nowhere)

-- an instance says of an event that it does not want it
pub told-unwanted : (g : Config) (name : Option (List ℕ)) (past : List Request) (i : InstanceSeen) → InstanceStandsFor g name past i → (number : ℕ)
    → wants_event i (number - 1) ≡ false → (event : Definition) → event_of (declared_events past) number ≡ Some event → wants name event past ≡ false
told-unwanted g name past i stands zero off event there = absurd cc
told-unwanted g name past i stands (suc index) off event there =
    let e : suc index - 1 ≡ index = omega arith in
    sym (wants-told g name past i stands index event there) ∙ (rw e at off)
