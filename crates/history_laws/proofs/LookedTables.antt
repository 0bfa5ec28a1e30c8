-- The hist triggers of an instance, and the rows of their tables, with one more request among those done that only looks.
use Rattle.std.proofs.Common.{All, IsOk, subst, suc, ◌<◌, ◌≡◌, inl, inr, ℕ, ◌≤◌, nat_lt, ◌==◌, Bool, true, false, not, ◌&&◌, if◌then◌else◌, List, [], ◌∷◌, ◌++◌, length, map, Option, None, Some, option_map, Result, Ok, Err, refl, sym, ap, ◌∙◌, arith, lt-ltb}
use Rattle.std.proofs.lemmas.Bool.{false≢true}
use Rattle.std.proofs.lemmas.List.Elements.{All-cons}
use Rattle.std.proofs.lemmas.List.{append-nil, length-append, map-append}
use Rattle.trace_format.specs.Definitions.{Definition}
use Rattle.trace_trigger.specs.HistSpecs.{SpecSeen}
use Rattle.trace_trigger.specs.TriggerTexts.{said_of}
use Rattle.trace_trigger.specs.declared.fault.TriggerFault.{TriggerFault}
use Rattle.trace_trigger.specs.declared.spec.Action.{Action}
use Rattle.trace_trigger.specs.declared.trigger.TriggerText.{TriggerText}
use Rattle.trace_trigger.specs.declared.trigger.TriggerText.TheVariants.{Nothing, AttachSnapshot, RemoveSnapshot, Hist, RemoveHist}
use Rattle.hist_entries.specs.Hits.{Hit}
use Rattle.page_ring.specs.Events as ring
use Rattle.trace_command.specs.Paths.{File, OfInstance, OfCpu, OfEvent}
use Rattle.trace_command.specs.Requests.{Request, WriteFile, ReadFile, request_of}
use Rattle.trace_command.specs.declared.command.Config.{Config}
use Rattle.trace_command.specs.declared.command.Entry.{Entry}
use Rattle.trace_command.specs.declared.command.Reply.{Reply}
use Rattle.trace_command.specs.declared.refusal.Refusal.{Refusal}
use Rattle.trace_command.specs.declared.file_name.CpuFile.TheVariants as per_cpu
use Rattle.trace_command.specs.declared.file_name.EventFile.TheVariants as per_event
use Rattle.trace_command.specs.declared.file_name.TopFile.TheVariants as top
use Rattle.tracer_specification.specs.Emissions.{Emitted, emitted}
use Rattle.tracer_specification.specs.HistTriggers.{HistTrigger, Written, asked_by, asked_in, asked_of, counted_by, counted_hit, empties, has_same, hist_triggers, hists_after, hists_said, hits_of, is_of, is_paused, left_by, met_in, named_by, new_hist, paused_after, says_same, speaks_of, table_or, those_of, written_to}
use Rattle.tracer_specification.specs.History.{answer, answer_with_room, requests_of, unless_full}
use Rattle.tracer_specification.specs.Rings.{rings_after_read, rings_of_side}
use Rattle.tracer_specification.specs.Settings.{NumberedEvent, declared_events, instance_names, is_same, makes}
use Rattle.tracer_specification.specs.Snapshots.{live_side}
use Rattle.tracer_specification.specs.Triggers.{met_by}
use Rattle.tracer_specification.proofs.EventHists.{tables-made_before}
use Rattle.tracer_specification.proofs.LegalEvents.{done-had_room}
use Rattle.tracer_specification.proofs.TableSteps.{nothing-counted, unmade}
use Rattle.history_laws.specs.Looks.{LooksCanBeDoneWithout, LooksCanBeLeftOut, LookingChangesNothing, LookingLeavesWaiting, LookingTakesOnlyRoom}
use Rattle.history_laws.specs.ReadsInParts.{is_pipe}
use Rattle.history_laws.proofs.AlikePasts.{AreAlike, answer-same, found-later, left-later, same-later, those-later, waiting-same}
use Rattle.history_laws.proofs.Looks as looks
use Rattle.history_laws.proofs.Renumbered.{any-later, each-later, early-hists, filter-later, later_hist, up, up-cases, up-same}

-- ---- one string

table-later : (n number : ℕ) (found : Option HistTrigger) → table_or (up n number) (option_map (later_hist n) found) ≡ up n (table_or number found)
table-later n number None = refl
table-later n number (Some t) = refl

new-hist-later : (n number : ℕ) (event : Definition) (hists : List HistTrigger) (spec : SpecSeen)
    → new_hist (up n number) event (map (later_hist n) hists) spec ≡ later_hist n (new_hist number event hists spec)
new-hist-later n number event hists spec =
    ap (λ (m : ℕ). let t : HistTrigger = record { event = event; number = up n number; spec = spec; table = m } in t)
    (ap (table_or (up n number)) (found-later n spec hists) ∙ table-later n number (named_by spec hists))

said-hists : (n number : ℕ) (event : Definition) (hists : List HistTrigger) (said : Result TriggerText TriggerFault)
    → hists_said (up n number) event (map (later_hist n) hists) said ≡ map (later_hist n) (hists_said number event hists said)
said-hists n number event hists (Ok (Hist spec)) =
    ap (λ (ts : List HistTrigger). if has_same spec ts then map (later_hist n) hists else map (later_hist n) hists ++ new_hist (up n number) event (map (later_hist n) hists) spec ∷ [])
    (those-later n event hists)
    ∙ by (has_same spec (those_of event hists)) (has_same spec (map (later_hist n) (those_of event hists))) (same-later n spec (those_of event hists))
  where
    by : (same same_later : Bool) → same_later ≡ same
        → (if same_later then map (later_hist n) hists else map (later_hist n) hists ++ new_hist (up n number) event (map (later_hist n) hists) spec ∷ [])
        ≡ map (later_hist n) (if same then hists else hists ++ new_hist number event hists spec ∷ [])
    by true true is = refl
    by false false is =
        ap (λ (t : HistTrigger). map (later_hist n) hists ++ t ∷ []) (new-hist-later n number event hists spec)
        ∙ sym (map-append (later_hist n) hists (new_hist number event hists spec ∷ []))
    by true false is = cc
    by false true is = cc
said-hists n number event hists (Ok (RemoveHist spec)) =
    filter-later n (λ t. not (is_of event t && says_same spec t)) (λ t. not (is_of event t && says_same spec t)) (λ t. refl) hists
said-hists n number event hists (Ok (AttachSnapshot spec)) = refl
said-hists n number event hists (Ok RemoveSnapshot) = refl
said-hists n number event hists (Ok Nothing) = refl
said-hists n number event hists (Err fault) = refl

after-hists : (n number : ℕ) (written : Option Written) (hists : List HistTrigger)
    → hists_after (up n number) written (map (later_hist n) hists) ≡ map (later_hist n) (hists_after number written hists)
after-hists n number None hists = refl
after-hists n number (Some w) hists =
    ap (λ (ts : List HistTrigger). hists_said (up n number) w.event ts (said_of w.event w.text)) (left-later n w.event w.append hists)
    ∙ said-hists n number w.event (left_by w.event w.append hists) (said_of w.event w.text)

asked-of-later : (n table : ℕ) (hists : List HistTrigger) (said : Result TriggerText TriggerFault)
    → asked_of (up n table) (map (later_hist n) hists) said ≡ asked_of table hists said
asked-of-later n table hists (Ok (Hist spec)) =
    ap (λ (b : Bool). if b then Some spec.action else None)
    (any-later n (speaks_of spec table) (speaks_of spec (up n table)) (λ t. ap (λ (b : Bool). says_same spec t && b) (up-same n t.table table)) hists)
asked-of-later n table hists (Ok (RemoveHist spec)) = refl
asked-of-later n table hists (Ok (AttachSnapshot spec)) = refl
asked-of-later n table hists (Ok RemoveSnapshot) = refl
asked-of-later n table hists (Ok Nothing) = refl
asked-of-later n table hists (Err fault) = refl

asked-in-later : (n table : ℕ) (hists : List HistTrigger) (written : Option Written)
    → asked_in (up n table) (map (later_hist n) hists) written ≡ asked_in table hists written
asked-in-later n table hists None = refl
asked-in-later n table hists (Some w) =
    ap (λ (ts : List HistTrigger). asked_of (up n table) ts (said_of w.event w.text)) (those-later n w.event hists)
    ∙ asked-of-later n table (those_of w.event hists) (said_of w.event w.text)

-- ---- one emission

met-later : (n table : ℕ) (e : Option Emitted) (t : HistTrigger) → met_in (up n table) e (later_hist n t) ≡ met_in table e t
met-later n table e t = ap (λ (b : Bool). if b then map (counted_hit t) (met_by t.event t.spec.filter e) else []) (up-same n t.table table)

counted-later : (n table : ℕ) (paused : Bool) (hists : List HistTrigger) (e : Option Emitted)
    → counted_by (up n table) paused (map (later_hist n) hists) e ≡ counted_by table paused hists e
counted-later n table true hists e = refl
counted-later n table false hists e = each-later n (met_in table e) (met_in (up n table) e) (met-later n table e) hists

-- ---- two pasts, one with a request more, and what is done after them

module _ (more less : List Request) (one_more : looks.IsOneMore more less) where
  abbrev with_look : List Request → List Request
  with_look later = later ++ more

  abbrev without : List Request → List Request
  without later = later ++ less

  abbrev first : ℕ
  first = length less

  written-same : (instance : Option (List ℕ)) (later : List Request) (request : Request)
      → written_to instance (with_look later) request ≡ written_to instance (without later) request
  written-same instance later (WriteFile other (Some (OfEvent name per_event.Trigger)) append text) =
      ap (λ (o : Option NumberedEvent).
      if is_same instance other then option_map (λ (k : NumberedEvent). let w : Written = record { event = k.event; append = append; text = text } in w) o else None)
      (looks.named-same more less one_more name later)
  written-same instance later request = refl

  hists-same : (instance : Option (List ℕ)) (later : List Request)
      → hist_triggers instance (with_look later) ≡ map (later_hist first) (hist_triggers instance (without later))
  hists-same instance [] = one_more.hists instance ∙ early-hists first (hist_triggers instance less) (tables-made_before instance less)
  hists-same instance (request ∷ later) = by (makes instance request) (hists-same instance later)
    where
      by : (new : Bool) → hist_triggers instance (with_look later) ≡ map (later_hist first) (hist_triggers instance (without later))
          → (if new then [] else hists_after (length (with_look later)) (written_to instance (with_look later) request) (hist_triggers instance (with_look later)))
          ≡ map (later_hist first)
          (if new then [] else hists_after (length (without later)) (written_to instance (without later) request) (hist_triggers instance (without later)))
      by true rest = refl
      by false rest =
          ap (λ (m : ℕ). hists_after m (written_to instance (with_look later) request) (hist_triggers instance (with_look later)))
          (looks.length-later more less one_more later)
          ∙ ap (λ (w : Option Written). hists_after (up first (length (without later))) w (hist_triggers instance (with_look later)))
          (written-same instance later request)
          ∙ ap (hists_after (up first (length (without later))) (written_to instance (without later) request)) rest
          ∙ after-hists first (length (without later)) (written_to instance (without later) request) (hist_triggers instance (without later))

  asked-same : (instance : Option (List ℕ)) (table : ℕ) (later : List Request) (request : Request)
      → asked_by instance (up first table) (with_look later) request ≡ asked_by instance table (without later) request
  asked-same instance table later request =
      ap (λ (ts : List HistTrigger). asked_in (up first table) ts (written_to instance (with_look later) request)) (hists-same instance (request ∷ later))
      ∙ ap (asked_in (up first table) (map (later_hist first) (hist_triggers instance (request ∷ without later)))) (written-same instance later request)
      ∙ asked-in-later first table (hist_triggers instance (request ∷ without later)) (written_to instance (without later) request)

  paused-same : (instance : Option (List ℕ)) (table : ℕ) (later : List Request)
      → is_paused instance (up first table) (with_look later) ≡ is_paused instance table (without later)
  paused-same instance table [] = one_more.paused instance (up first table) ∙ elim (up-cases first table) [
    | inl early ↦ ap (λ (k : ℕ). is_paused instance k less) early.1
    | inr behind ↦
        let le = behind.0 in
        let raised : first ≤ up first table = omega (arith, le, behind.1) in
        (unmade instance (up first table) less raised).0 ∙ sym (unmade instance table less le).0
  ]
  paused-same instance table (request ∷ later) =
      ap (λ (a : Option Action). paused_after a (is_paused instance (up first table) (with_look later))) (asked-same instance table later request)
      ∙ ap (paused_after (asked_by instance table (without later) request)) (paused-same instance table later)

  hits-same : (instance : Option (List ℕ)) (table : ℕ) (later : List Request)
      → hits_of instance (up first table) (with_look later) ≡ hits_of instance table (without later)
  hits-same instance table [] = one_more.hits instance (up first table) ∙ elim (up-cases first table) [
    | inl early ↦ ap (λ (k : ℕ). hits_of instance k less) early.1
    | inr behind ↦
        let le = behind.0 in
        let raised : first ≤ up first table = omega (arith, le, behind.1) in
        (unmade instance (up first table) less raised).1 ∙ sym (unmade instance table less le).1
  ]
  hits-same instance table (request ∷ later) =
      let counted : Bool → List HistTrigger → Option Emitted → List Hit = counted_by (up first table) in
      let e = emitted (without later) request in
      let older = hits_of instance table (without later) in
      let asked = asked_by instance table (without later) request in
      let paused = is_paused instance table (without later) in
      ap (λ (a : Option Action). if empties a then [] else hits_of instance (up first table) (with_look later)
      ++ counted (is_paused instance (up first table) (with_look later)) (hist_triggers instance (with_look later)) (emitted (with_look later) request))
      (asked-same instance table later request)
      ∙ ap (λ (rows : List Hit). if empties asked then [] else rows
      ++ counted (is_paused instance (up first table) (with_look later)) (hist_triggers instance (with_look later)) (emitted (with_look later) request))
      (hits-same instance table later)
      ∙ ap (λ (b : Bool). if empties asked then [] else older ++ counted b (hist_triggers instance (with_look later)) (emitted (with_look later) request))
      (paused-same instance table later)
      ∙ ap (λ (ts : List HistTrigger). if empties asked then [] else older ++ counted paused ts (emitted (with_look later) request)) (hists-same instance later)
      ∙ ap (λ (o : Option Emitted). if empties asked then [] else older ++ counted paused (map (later_hist first) (hist_triggers instance (without later))) o)
      (looks.emitted-same more less one_more later request)
      ∙ ap (λ (rows : List Hit). if empties asked then [] else older ++ rows) (counted-later first table paused (hist_triggers instance (without later)) e)

  pub are-alike : (later : List Request) → AreAlike first (with_look later) (without later)
  are-alike later = record {
    events = looks.events-same more less one_more later;
    instances = looks.instances-same more less one_more later;
    now = looks.now-same more less one_more later;
    enabled = λ instance event. looks.enabled-same more less one_more instance event later;
    filters = λ instance event. looks.filter-same more less one_more instance event later;
    overwriting = λ instance. looks.overwrites-same more less one_more instance later;
    tracing = λ instance. looks.tracing-same more less one_more instance later;
    live = λ g instance. looks.rings-same more less one_more g instance later;
    spare = λ g instance. looks.spare_rings-same more less one_more g instance later;
    trigger = λ instance event. looks.trigger-later more less one_more instance event later;
    times = λ event t. looks.times-same more less one_more event t later;
    hists = λ instance. hists-same instance later;
    paused = λ instance table. paused-same instance table later;
    hits = λ instance table. hits-same instance table later;
  }

-- ---- reads

-- a read counts no row
pub hits-read : (past : List Request) (reader : Option (List ℕ)) (file : Option File) (limit : Option ℕ) (instance : Option (List ℕ)) (table : ℕ)
    → hits_of instance table (ReadFile reader file limit ∷ past) ≡ hits_of instance table past
hits-read past reader file limit instance table =
    ap (λ (rows : List Hit). hits_of instance table past ++ rows) (nothing-counted table (is_paused instance table past) (hist_triggers instance past))
    ∙ append-nil (hits_of instance table past)

-- and one of a file that is no pipe reads nothing from a ring
read-nothing : (g : Config) (limit : Option ℕ) (file : File) (family : List (List ring.Event)) → is_pipe file ≡ false
    → rings_after_read g limit (Some file) family ≡ family
read-nothing g limit (OfInstance top.TracePipe) family is = absurd (false≢true (sym is))
read-nothing g limit (OfCpu cpu per_cpu.TracePipe) family is = absurd (false≢true (sym is))
read-nothing g limit file family is = refl

look-one_more : (past : List Request) (reader : Option (List ℕ)) (seen : File) (limit : Option ℕ) → is_pipe seen ≡ false
    → looks.IsOneMore (ReadFile reader (Some seen) limit ∷ past) past
look-one_more past reader seen limit quiet = record {
  number = refl;
  events = append-nil (declared_events past);
  instances = append-nil (instance_names past);
  now = omega arith;
  enabled = λ instance event. refl;
  filters = λ instance event. refl;
  overwriting = λ instance. refl;
  tracing = λ instance. refl;
  spare = λ instance. refl;
  trigger = λ instance event. refl;
  meets = looks.met-read past reader (Some seen) limit;
  count = λ instance. omega arith;
  sides = λ g instance side. by g instance side (side == live_side instance past) (is_same instance reader);
  hists = λ instance. refl;
  paused = λ instance table. refl;
  hits = hits-read past reader (Some seen) limit;
}
  where
    by : (g : Config) (instance : Option (List ℕ)) (side : ℕ) (live same : Bool)
        → (if live then (if same then rings_after_read g limit (Some seen) (rings_of_side g instance side past) else rings_of_side g instance side past)
        else rings_of_side g instance side past) ≡ rings_of_side g instance side past
    by g instance side true true = read-nothing g limit seen (rings_of_side g instance side past) quiet
    by g instance side true false = refl
    by g instance side false same = refl

-- ---- the theorems

pub looking_changes_nothing : LookingChangesNothing
looking_changes_nothing g past later instance file limit next quiet =
    answer-same (length past) (later ++ ReadFile instance (Some file) limit ∷ past) (later ++ past) (are-alike (ReadFile instance (Some file) limit ∷ past) past (look-one_more past instance file limit quiet) later) g next

pub looking_leaves_waiting : LookingLeavesWaiting
looking_leaves_waiting g past later instance at file limit pipe quiet =
    waiting-same (length past) (later ++ ReadFile instance (Some file) limit ∷ past) (later ++ past) (are-alike (ReadFile instance (Some file) limit ∷ past) past (look-one_more past instance file limit quiet) later) g at pipe

pub looking_takes_only_room : LookingTakesOnlyRoom
unfolding answer
looking_takes_only_room g past later instance file limit next quiet room =
    ap (unless_full g.history_limit (length (later ++ look ∷ past))) (looking_changes_nothing g past later instance file limit next quiet)
    ∙ by (answer_with_room g (later ++ past) next)
  where
    look : Request
    look = ReadFile instance (Some file) limit

    one : nat_lt (length (later ++ look ∷ past)) g.history_limit ≡ true
    one = lt-ltb (length (later ++ look ∷ past)) g.history_limit
        (let a = length-append later (look ∷ past) in let b = length-append later past in omega (arith, a, b, room))

    other : nat_lt (length (later ++ past)) g.history_limit ≡ true
    other = lt-ltb (length (later ++ past)) g.history_limit (omega (arith, room))

    by : (answered : Result Reply Refusal) → unless_full g.history_limit (length (later ++ look ∷ past)) answered ≡ unless_full g.history_limit (length (later ++ past)) answered
    by (Err refusal) = refl
    by (Ok reply) = rw (one, other) refl

-- ---- looks left out

pub looks_can_be_done_without : LooksCanBeDoneWithout
looks_can_be_done_without g past [] instance file limit quiet done = done.1
looks_can_be_done_without g past (request ∷ later) instance file limit quiet done = (
  subst IsOk (looking_changes_nothing g past later instance file limit request quiet) done.0,
  looks_can_be_done_without g past later instance file limit quiet done.1,
)

requests-append : (later before : List Entry) → requests_of (later ++ before) ≡ requests_of later ++ requests_of before
requests-append [] before = refl
requests-append (entry ∷ later) before = ap (λ (rs : List Request). request_of entry.command ∷ rs) (requests-append later before)

all-but-one : (P : Entry → Type 0) (later : List Entry) (look : Entry) (before : List Entry) → All P (later ++ look ∷ before) → All P (later ++ before)
all-but-one P [] look before all = λ k d within. all (suc k) d (omega (arith, within))
all-but-one P (entry ∷ later) look before all =
    All-cons P entry (later ++ before) (all 0 entry (omega arith))
    (all-but-one P later look before (λ k d within. all (suc k) d (omega (arith, within))))

-- what is done with a look before it is done without
done-without : (g : Config) (before later : List Entry) (look : Entry) (instance : Option (List ℕ)) (file : File) (limit : Option ℕ) (next : Request)
    → request_of look.command ≡ ReadFile instance (Some file) limit → is_pipe file ≡ false
    → IsOk (answer g (requests_of (later ++ look ∷ before)) next) → IsOk (answer g (requests_of (later ++ before)) next)
unfolding answer
done-without g before later look instance file limit next is quiet done =
    by (answer_with_room g (requests_of (later ++ before)) next) (subst IsOk same had.0)
  where
    had : IsOk (answer_with_room g (requests_of (later ++ look ∷ before)) next) × (length (requests_of (later ++ look ∷ before)) < g.history_limit)
    had = done-had_room g (requests_of (later ++ look ∷ before)) next done

    with_it : requests_of (later ++ look ∷ before) ≡ requests_of later ++ ReadFile instance (Some file) limit ∷ requests_of before
    with_it = requests-append later (look ∷ before) ∙ ap (λ (r : Request). requests_of later ++ r ∷ requests_of before) is

    same : answer_with_room g (requests_of (later ++ look ∷ before)) next ≡ answer_with_room g (requests_of (later ++ before)) next
    same =
        ap (λ (rs : List Request). answer_with_room g rs next) with_it
        ∙ looking_changes_nothing g (requests_of before) (requests_of later) instance file limit next quiet
        ∙ ap (λ (rs : List Request). answer_with_room g rs next) (sym (requests-append later before))

    room : nat_lt (length (requests_of (later ++ before))) g.history_limit ≡ true
    room = lt-ltb (length (requests_of (later ++ before))) g.history_limit
        (let a = ap length with_it in let b = ap length (requests-append later before) in
        let c = length-append (requests_of later) (ReadFile instance (Some file) limit ∷ requests_of before) in
        let d = length-append (requests_of later) (requests_of before) in omega (arith, a, b, c, d, had.1))

    by : (answered : Result Reply Refusal) → IsOk answered → IsOk (unless_full g.history_limit (length (requests_of (later ++ before))) answered)
    by (Err refusal) ok = ok
    by (Ok reply) ok = rw room refl

pub looks_can_be_left_out : LooksCanBeLeftOut
looks_can_be_left_out g before [] look instance file limit is quiet legal = legal.3
looks_can_be_left_out g before (entry ∷ later) look instance file limit is quiet legal = (
  legal.0,
  all-but-one (λ (earlier : Entry). earlier.ticket < entry.ticket) later look before legal.1,
  done-without g before later look instance file limit (request_of entry.command) is quiet legal.2,
  looks_can_be_left_out g before later look instance file limit is quiet legal.3,
)
