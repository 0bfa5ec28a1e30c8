-- The sizes that are told are lengths: a text that was counted is what its file shows, as long as no command was done since then.
use Rattle.std.proofs.Common.{◌≡◌, inl, inr, ℕ, ◌+◌, ◌-◌, ◌/◌, ◌%◌, ◌^◌, ◌<◌, ◌≤◌, eqb, nat_le, nat_lt, Bool, true, false, not, ◌&&◌, cond, if◌then◌else◌, List, [], ◌∷◌, ◌++◌, All, length, drop, filter, find, is_some, Option, Some, None, IsOk, Result, Ok, Err, refl, sym, ap, subst, ◌∙◌, append-nil, length-append, arith, eqb-true, leb-false, ltb-true}
use Rattle.std.specs.Result.{result_ok}
use Rattle.std.proofs.lemmas.Bool.{and_parts, false≢true}
use Rattle.std.proofs.lemmas.List.Elements.{All-cons, All-drop, All-filter, All-head, All-nil, All-push, All-tail, All-weaker}
use Rattle.std.proofs.lemmas.Option.{none-some, same_Some}
use Rattle.fuse_wire.specs.Replies.{reply_bytes}
use Rattle.fuse_wire.specs.declared.reply.Reply.{Reply}
use Rattle.fuse_wire.specs.declared.reply.Reply.TheVariants as replies
use Rattle.trace_command.specs.Configs.{IsInRange}
use Rattle.trace_command.specs.Paths.{SyntheticEvents}
use Rattle.trace_command.specs.Requests.{Request, WriteFile}
use Rattle.trace_command.specs.declared.command.Config.{Config}
use Rattle.trace_command.specs.declared.refusal.Refusal.TheVariants as refusal
use Rattle.trace_format.specs.Catalogs.{id_for, id_of}
use Rattle.trace_format.specs.Cells.{record_size_of}
use Rattle.trace_format.specs.Definitions.{Definition}
use Rattle.trace_format.specs.Reading.{definition_of, cause_in}
use Rattle.trace_format.specs.declared.fault.CatalogFault.TheVariants as catalog
use Rattle.tracer.specs.Lives.{live_answer}
use Rattle.trace_command.specs.declared.command.Reply.TheVariants as answers
use Rattle.tracer_specification.proofs.LegalEvents.{asked-done}
use Rattle.tracer_specification.specs.History.{added_answer, answer_with_room, declaration_answer, read_declaration_answer}
use Rattle.tracer_specification.specs.Pasts.{AreDone}
use Rattle.tracer_specification.specs.Settings.{declared_events, declares}
use Rattle.mount_tree.proofs.ListLemmas.{all-unmapped, found_one, found_passes}
use Rattle.mount_tree.proofs.NumberLemmas.{one_owner, place-below, same_number, unpacked}
use Rattle.mount_tree.proofs.SoundLemmas.{indexes-below}
use Rattle.mount_tree.specs.Children.{file_is_there, is_there, owner_is_there}
use Rattle.file_list.specs.FileKinds.{kind_of_file}
use Rattle.file_list.specs.FileTable.{file_index}
use Rattle.mount_tree.specs.Nodes.{FitsItsTypes, file_place, number_from, number_of, owner_number}
use Rattle.mount_tree.specs.Scenes.{event_at}
use Rattle.mount_tree.specs.ScenesAfter.{events_after, scene_after}
use Rattle.file_list.specs.declared.file.File.{File}
use Rattle.file_list.specs.declared.file.File.TheVariants.{CpuSize, EventId, Inject, OfCpu, OfEvent, RawPipe}
use Rattle.file_list.specs.declared.file.FileKind.{FileKind}
use Rattle.file_list.specs.declared.file.FileKind.TheVariants as kinds
use Rattle.mount_tree.specs.declared.node.Node.{Node}
use Rattle.mount_tree.specs.declared.node.Node.TheVariants as nodes
use Rattle.mount_tree.specs.declared.node.Owner.{Owner}
use Rattle.mount_tree.specs.declared.node.Owner.TheVariants.{Top}
use Rattle.mount_tree.specs.declared.scene.Event.{Event}
use Rattle.mount_replies.proofs.AskedSteps.{IsOfEach, IsOfThere, parked-is, step-is}
use Rattle.mount_replies.proofs.DoneLemmas.{turn-done}
use Rattle.mount_replies.proofs.PartLaws.{does-adds}
use Rattle.mount_replies.proofs.RunLemmas.{Adds}
use Rattle.mount_replies.proofs.TurnLemmas.{call-keeps, call_step, turns-keep}
use Rattle.mount_replies.proofs.ShownTurns.{shown-there, trace-kind}
use Rattle.mount_replies.specs.Calls.{Called, Exchanged, IsTurned, Shows, TakesTurns, Turn}
use Rattle.mount_replies.specs.Mounted.{AreServed, Does, IsExchanged, IsNamed, Right, TellsOwed, Unframed, Wrong, bytes_of_reply}
use Rattle.mount_replies.specs.Owed.{Owed, ReplyAt, WakeupAt, owed, step_of_parked}
use Rattle.mount_replies.specs.PastLaws.{SizesAreLengths, TellsLength, WasDone, is_shown, just_mounted}
use Rattle.mount_replies.specs.Served.{step_of}
use Rattle.mount_replies.specs.Services.{Service, Terms, count_of, is_of_node, latest_texts, most_counted, most_texts, scene_of, with_count, without_oldest, without_read}
use Rattle.mount_replies.specs.Sizes.{Telling, count_text, counted_now, entry_number, get_attributes, set_attributes, size_by_kind, size_of_text, tell_entry, tell_size, text_now, text_of_kind, text_answered}
use Rattle.mount_replies.specs.Steps.{Asks, AsksLines, AsksNoting, Counts, Interrupts, Parks, Plain, Step, Takes, Tells, plain, read_of}
use Rattle.mount_replies.specs.ShownTexts.{WasShown, count_then, node_shown, shown_step}
use Rattle.mount_replies.specs.Told.{attributes_of, found_in, sets_size}
use Rattle.mount_replies.specs.declared.shown.ShownText.{ShownText}
use Rattle.mount_replies.specs.declared.counted.Counted.{Counted}

-- ---- few events

room-left : (g : Config) (past : List Request) (event : Definition) → IsOk (added_answer (id_for (declared_events past) event g.page_bytes))
    → length (declared_events past) < 64
room-left g past event done =
    by (is_some (id_of events event.name)) (nat_lt 16 (length event.fields)) (nat_le 64 (length events)) (nat_lt g.page_bytes (record_size_of event)) refl done
  where
    events : List Definition
    events = declared_events past

    by : (there many full big : Bool) → nat_le 64 (length events) ≡ full
        → IsOk (added_answer (if there then Err catalog.EventExists else if many then Err catalog.TooManyFields else if full then Err catalog.TooManyEvents else if big then Err catalog.TooBig else Ok (length events + 1)))
        → length events < 64
    by true many full big a d = absurd (false≢true d)
    by false true full big a d = absurd (false≢true d)
    by false false true big a d = absurd (false≢true d)
    by false false false true a d = absurd (false≢true d)
    by false false false false a d = leb-false 64 (length events) a

declared-room : (g : Config) (past : List Request) (request : Request) (event : Definition) → IsOk (answer_with_room g past request) → declares request ≡ Some event
    → length (declared_events past) < 64
unfolding declaration_answer
declared-room g past (WriteFile instance (Some SyntheticEvents) append text) event done is =
    by (definition_of text) (asked-done instance past (declaration_answer g past append text) done) is
  where
    by_busy : (busy : Bool) → IsOk (if busy then Err refusal.Busy else added_answer (id_for (declared_events past) event g.page_bytes))
        → length (declared_events past) < 64
    by_busy true d = absurd (false≢true d)
    by_busy false d = room-left g past event d

    by : (read : Result Definition ℕ) → IsOk (read_declaration_answer g past append (cause_in text) read) → result_ok read ≡ Some event → length (declared_events past) < 64
    by (Err at) d e = absurd (none-some event e)
    by (Ok found) d e =
        let same : found ≡ event = same_Some _ _ e in by_busy (not append && nat_lt 0 (length (declared_events past))) (rw same at d)
declared-room g past _ event done is = absurd (none-some event is)

few-events : (g : Config) (past : List Request) → AreDone g past → length (declared_events past) ≤ 64
few-events g [] done = omega arith
few-events g (request ∷ past) done = by (declares request) refl (few-events g past done.1)
  where
    by : (declared : Option Definition) → declares request ≡ declared → length (declared_events past) ≤ 64 → length (declared_events (request ∷ past)) ≤ 64
    by None is few = rw (is, append-nil) few
    by (Some event) is few =
        let room = declared-room g past request event done.0 is in
        let long : length (declared_events past ++ event ∷ []) ≡ length (declared_events past) + 1 = length-append (declared_events past) (event ∷ []) in
        rw is (omega (arith, room, long))

-- ---- one file a number

event-small : (past : List Request) (event : ℕ) → length (declared_events past) ≤ 64 → is_some (event_at event (events_after past)) ≡ true → event < 256
event-small past event few there = by (event_at event (events_after past)) refl there
  where
    by : (o : Option Event) → event_at event (events_after past) ≡ o → is_some o ≡ true → event < 256
    by None at some = absurd (false≢true some)
    by (Some found) at some =
        let below = found_one (λ (e : Event). e.index < length (declared_events past)) (λ (e : Event). eqb e.index event) (events_after past) found
        (all-unmapped (λ k. k < length (declared_events past)) (λ (e : Event). e.index) (events_after past) (indexes-below past).below) at in
        let same = eqb-true found.index event (found_passes (λ (e : Event). eqb e.index event) (events_after past) found at) in
        omega (arith, few, below, same)

index-small : (cpus : ℕ) (past : List Request) (owner : Owner) (file : File) → cpus ≤ 8 → length (declared_events past) ≤ 64
    → file_is_there (scene_after cpus past) owner file ≡ true → file_index file < 256
index-small cpus past owner (OfCpu cpu file) few events there = let below = ltb-true cpu cpus there in omega (arith, few, below)
index-small cpus past owner (CpuSize cpu) few events there = let below = ltb-true cpu cpus there in omega (arith, few, below)
index-small cpus past owner (RawPipe cpu) few events there = let below = ltb-true cpu cpus there in omega (arith, few, below)
index-small cpus past owner (OfEvent event file) few events there = event-small past event events there
index-small cpus past owner (Inject event) few events there = event-small past event events there
index-small cpus past owner (EventId event) few events there = event-small past event events there
index-small cpus past owner _ few events there = omega arith

top-fits : (file : File) → file_index file < 256 → FitsItsTypes (nodes.File Top file)
top-fits file small = record { owner = omega arith; index = omega (arith, small) }

one-file : (owner other : Owner) (file fellow : File) → file_index file < 256 → file_index fellow < 256
    → number_of (nodes.File owner file) ≡ number_of (nodes.File other fellow) → (owner ≡ other) × (file ≡ fellow)
unfolding number_of
one-file owner other file fellow small little same =
    let first = unpacked (owner_number owner) (file_index file) (file_place file) small (place-below (nodes.File owner file)) in
    let second = unpacked (owner_number other) (file_index fellow) (file_place fellow) little (place-below (nodes.File other fellow)) in
    let whose : owner_number owner ≡ owner_number other = first.whose ∙ ap (λ (n : ℕ). (n - 1) / 16384) same ∙ sym second.whose in
    let which : file_index file ≡ file_index fellow = first.which ∙ ap (λ (n : ℕ). (n - 1) / 64 % 256) same ∙ sym second.which in
    let kind : file_place file ≡ file_place fellow = first.kind ∙ ap (λ (n : ℕ). (n - 1) % 64) same ∙ sym second.kind in
    let numbers : number_of (nodes.File Top file) ≡ number_of (nodes.File Top fellow) =
    ap (λ (i : ℕ). number_from 0 i (file_place file)) which ∙ ap (λ (p : ℕ). number_from 0 (file_index fellow) p) kind in
    let both : nodes.File Top file ≡ nodes.File Top fellow =
    same_number (nodes.File Top file) (nodes.File Top fellow) (top-fits file small) (top-fits fellow little) numbers in
    (one_owner owner other whose, let is : file ≡ fellow = cc in is)

-- ---- texts that were counted

abbrev is_log : FileKind → Bool
is_log kinds.ErrorLog = true
is_log _ = false

-- a service of which these commands are known alone
abbrev only_past : List Request → Service
only_past past = record { past = past; files = []; parked = []; errors = []; counted = [] }

text-same : (g : Terms) (s : Service) (owner : Owner) (file : File) (kind : FileKind) → is_log kind ≡ false
    → text_of_kind g s owner file kind ≡ text_of_kind g (only_past s.past) owner file kind
text-same g s owner file kinds.Tool plain = refl
text-same g s owner file kinds.Text plain = refl
text-same g s owner file kinds.Trace plain = refl
text-same g s owner file kinds.Pipe plain = refl
text-same g s owner file kinds.RawPipe plain = refl
text-same g s owner file kinds.Inject plain = refl
text-same g s owner file kinds.ErrorLog plain = absurd (false≢true (sym plain))

-- the size is the length of what the file of this number shows after these commands
abbrev IsExact : Terms → List Request → Counted → Type 0
IsExact g past count =
    (owner : Owner) (file : File) → is_there (scene_after g.config.cpus past) (nodes.File owner file) ≡ true → number_of (nodes.File owner file) ≡ count.node
    → is_log (kind_of_file file) ≡ false → count.size ≡ length (text_now g (only_past past) owner file)

-- it was counted after no more commands than these, and, if after as many, is exact
record IsCounted (g : Terms) (past : List Request) (count : Counted) : Type 0 where
  within : count.after ≤ length past
  exact : count.after ≡ length past → IsExact g past count

now-counted : (g : Terms) (s : Service) → IsInRange g.config → WasDone g s.past → (owner : Owner) (file : File)
    → is_there (scene_of g s) (nodes.File owner file) ≡ true → IsCounted g s.past (counted_now g s owner file)
now-counted g s ranges was owner file there =
    let few = few-events g.config s.past was.done in
    let small = index-small g.config.cpus s.past owner file ranges.few_cpus few
    (and_parts (owner_is_there (scene_of g s) owner) (file_is_there (scene_of g s) owner file) there).1 in record {
      within = omega arith;
      exact = λ recent other fellow found number plain.
          let little = index-small g.config.cpus s.past other fellow ranges.few_cpus few
          (and_parts (owner_is_there (scene_of g s) other) (file_is_there (scene_of g s) other fellow) found).1 in
          let same = one-file owner other file fellow small little (sym number) in
          ap (λ (o : Owner). length (text_now g s o file)) same.0 ∙ ap (λ (f : File). length (text_now g s other f)) same.1
          ∙ ap (λ (text : List ℕ). length text) (text-same g s other fellow (kind_of_file fellow) plain);
    }

-- ---- what is kept of them

without-text : (g : Terms) (past : List Request) (count : Counted) → IsCounted g past count → IsCounted g past (record count { text = None })
without-text g past count is = record { within = is.within; exact = is.exact }

latest-counted : (g : Terms) (past : List Request) (counted : List Counted) → All (IsCounted g past) counted → All (IsCounted g past) (latest_texts counted)
unfolding latest_texts
latest-counted g past [] all = All-nil (IsCounted g past)
latest-counted g past (count ∷ later) all =
    All-cons (IsCounted g past) _ (latest_texts later) (by (nat_lt (length later) most_texts))
    (latest-counted g past later (All-tail (IsCounted g past) count later all))
  where
    head : IsCounted g past count
    head = All-head (IsCounted g past) count later all

    by : (b : Bool) → IsCounted g past (if b then count else record count { text = None })
    by true = head
    by false = without-text g past count head

oldest-counted : (g : Terms) (past : List Request) (counted : List Counted) → All (IsCounted g past) counted → All (IsCounted g past) (without_oldest counted)
oldest-counted g past counted all = by (nat_lt (length counted) most_counted)
  where
    by : (b : Bool) → All (IsCounted g past) (if b then counted else drop 1 counted)
    by true = all
    by false = All-drop (IsCounted g past) 1 counted all

one-counted : (g : Terms) (past : List Request) (count : Counted) (counted : List Counted) → IsCounted g past count → All (IsCounted g past) counted
    → All (IsCounted g past) (with_count count counted)
one-counted g past count counted is all =
    let others = filter (λ (other : Counted). not (is_of_node count.node other)) counted in
    latest-counted g past (without_oldest others ++ count ∷ [])
    (All-push (IsCounted g past) (without_oldest others) count
    (oldest-counted g past others (All-filter (λ (other : Counted). not (is_of_node count.node other)) (IsCounted g past) counted all)) is)

-- after commands that were done nothing is counted as late
later-counted : (g : Terms) (past now : List Request) (most : ℕ) (counted : List Counted) → Adds past now most → All (IsCounted g past) counted
    → All (IsCounted g now) counted
later-counted g past now most counted adds all = by adds.done adds.is
  where
    by : (done : List Request) → now ≡ done ++ past → All (IsCounted g now) counted
    by [] is = subst (λ (p : List Request). All (IsCounted g p) counted) (sym is) all
    by (request ∷ done) is =
        let long : length now ≡ length (request ∷ done) + length past = ap (λ (l : List Request). length l) is ∙ length-append (request ∷ done) past in
        All-weaker (IsCounted g past) (IsCounted g now)
        (λ count was. let within = was.within in record { within = omega (arith, within, long); exact = λ recent. absurd (omega (arith, within, long, recent)) })
        counted all

-- ---- steps

abbrev HasCounted : Terms → Service → Type 0
HasCounted g s = All (IsCounted g s.past) s.counted

same-counted : (g : Terms) (before : Service) (step : Step) (reply : Option Reply) (after : Service) → HasCounted g before → Does g before step reply after
    → after.counted ≡ before.counted → HasCounted g after
same-counted g before step reply after all does same =
    subst (λ (counted : List Counted). All (IsCounted g after.past) counted) (sym same)
    (later-counted g before.past after.past _ before.counted (does-adds g before after step reply does) all)

abbrev counted_of : Service → List Counted
counted_of s = s.counted

-- nothing is said of what is asked
abbrev any_request : Request → Type 0
any_request request = Unit {0}

any-requests : (g : Terms) → IsOfEach g any_request
any-requests g = record {
  whole = λ scene node. tt;
  some = λ scene node most few. tt;
  wrote = λ scene node append text. tt;
  made = λ path. tt;
  injected = λ pid event pairs. tt;
}

does-counted : (g : Terms) (before : Service) (step : Step) (reply : Option Reply) (after : Service)
    → IsOfThere any_request (IsCounted g before.past) (scene_after g.config.cpus before.past) step → HasCounted g before → Does g before step reply after → HasCounted g after
does-counted g before (Plain outcome) reply after of all does =
    same-counted g before (Plain outcome) reply after all does (ap counted_of does.1)
does-counted g before (Takes outcome) reply after of all (inl does) = subst (HasCounted g) (sym does.1) all
does-counted g before (Takes outcome) reply after of all (inr does) = subst (HasCounted g) (sym does.1) all
does-counted g before (Asks request outcome) reply after of all does =
    same-counted g before (Asks request outcome) reply after all does (ap counted_of does.3)
does-counted g before (Parks read) reply after of all (inl does) = subst (HasCounted g) (sym does.1) all
does-counted g before (Parks read) reply after of all (inr does) = subst (HasCounted g) (sym does.1) all
does-counted g before (Interrupts unique) reply after of all does = subst (HasCounted g) (sym does.1) all
does-counted g before (AsksNoting request takes outcome noting) reply after of all does =
    same-counted g before (AsksNoting request takes outcome noting) reply after all does (ap counted_of does.3)
does-counted g before (Tells noting takes outcome) reply after of all (inl does) = subst (HasCounted g) (sym does.1) all
does-counted g before (Tells noting takes outcome) reply after of all (inr (may, told, same)) = subst (HasCounted g) (sym same) all
does-counted g before (AsksLines lines outcome noting) reply after of all does =
    same-counted g before (AsksLines lines outcome noting) reply after all does (ap counted_of does.3)
does-counted g before (Counts count outcome) reply after of all (inl does) =
    subst (HasCounted g) (sym does.1) (one-counted g before.past count before.counted of all)
does-counted g before (Counts count outcome) reply after of all (inr does) = subst (HasCounted g) (sym does.1) all

owed-counted : (g : Terms) (before : Service) (what : Option Owed) (bytes : List ℕ) (after : Service) → HasCounted g before
    → TellsOwed g before what bytes after → HasCounted g after
owed-counted g before None bytes after all told = absurd told
owed-counted g before (Some (ReplyAt index)) bytes after all told =
    does-counted g (without_read index before) (step_of_parked g before told.read) (Some told.reply) after
    (parked-is any_request (IsCounted g before.past) g before (any-requests g) told.read) all told.does
owed-counted g before (Some (WakeupAt handle)) bytes after all told = subst (HasCounted g) (sym told.now) all

served-counted : (g : Terms) (before : Service) (asked bytes : List ℕ) (after : Service) → IsInRange g.config → WasDone g before.past → HasCounted g before
    → AreServed g before asked bytes after → HasCounted g after
served-counted g before asked bytes after ranges was all (Right request is served) =
    does-counted g before (step_of g before request.unique request.pid served.node request.operation) served.reply after
    (step-is any_request (IsCounted g before.past) g before (any-requests g) (now-counted g before ranges was) request.unique request.pid served.node request.operation) all served.does
served-counted g before asked bytes after ranges was all (Wrong opcode unique framed none told same) = subst (HasCounted g) (sym same) all
served-counted g before asked bytes after ranges was all (Unframed none told same) = subst (HasCounted g) (sym same) all

exchange-counted : (g : Terms) (before : Service) (asked bytes : List ℕ) (after : Service) → IsInRange g.config → WasDone g before.past → HasCounted g before
    → IsExchanged g before asked bytes after → HasCounted g after
exchange-counted g before [] bytes after ranges was all is = owed-counted g before (owed g before) bytes after all is
exchange-counted g before (byte ∷ asked) bytes after ranges was all is = served-counted g before (byte ∷ asked) bytes after ranges was all is.1

no-commands : (past : List Request) → length past ≡ 0 → past ≡ []
no-commands [] none = refl
no-commands (request ∷ past) none = absurd (omega (arith, none))

-- what a trace showed after earlier commands is exact as long as no other was done
then-counted : (g : Terms) (past : List Request) → IsInRange g.config → WasDone g past → (shown : ShownText) → WasShown g past shown
    → IsCounted g past (count_then shown)
then-counted g past ranges was shown one = record {
  within = omega (arith, one.was.after_is, long);
  exact = λ recent. none-later (no-commands one.later (omega (arith, recent, one.was.after_is, long)));
}
  where
    long : length past ≡ length one.later + length one.earlier
    long = ap (λ (p : List Request). length p) one.is ∙ length-append one.later one.earlier

    none-later : one.later ≡ [] → IsExact g past (count_then shown)
    none-later none other fellow found number plain =
        let now : past ≡ one.earlier = one.is ∙ ap (λ (later : List Request). later ++ one.earlier) none in
        let there : is_there (scene_after g.config.cpus past) (node_shown shown) ≡ true = rw now one.was.there in
        let shows : live_answer g.config past (read_of (scene_after g.config.cpus past) (node_shown shown) None) ≡ Ok (answers.Text shown.text) = rw now one.was.shows in
        let few = few-events g.config past was.done in
        let small = index-small g.config.cpus past shown.owner shown.file ranges.few_cpus few
        (and_parts (owner_is_there (scene_after g.config.cpus past) shown.owner) (file_is_there (scene_after g.config.cpus past) shown.owner shown.file) there).1 in
        let little = index-small g.config.cpus past other fellow ranges.few_cpus few
        (and_parts (owner_is_there (scene_after g.config.cpus past) other) (file_is_there (scene_after g.config.cpus past) other fellow) found).1 in
        let same = one-file shown.owner other shown.file fellow small little (sym number) in
        let text : shown.text ≡ text_now g (only_past past) shown.owner shown.file =
        trace-kind (λ (k : FileKind). shown.text ≡ text_of_kind g (only_past past) shown.owner shown.file k) shown.file one.was.long
        (sym (ap text_answered shows)) (sym (ap text_answered shows)) in
        ap (λ (t : List ℕ). length t) text ∙ ap (λ (o : Owner). length (text_now g (only_past past) o shown.file)) same.0
        ∙ ap (λ (f : File). length (text_now g (only_past past) other f)) same.1

-- a call counts nothing
turn-counted : (g : Terms) (before : Service) (turn : Turn) (after : Service) → IsInRange g.config → WasDone g before.past → HasCounted g before
    → IsTurned g before turn after → HasCounted g after
turn-counted g before (Exchanged asked bytes) after ranges was all is = exchange-counted g before asked bytes after ranges was all is
turn-counted g before (Called limit request answer) after ranges was all is =
    call-keeps g (HasCounted g) before limit request answer after all
    (λ does. same-counted g before (call_step g before request) (Some replies.Done) after all does (ap counted_of is.1)) is
turn-counted g before (Shows shown asked bytes) after ranges was all is =
    does-counted g before (shown_step g before is.request.unique shown is.request.operation) is.reply after
    (shown-there any_request (IsCounted g before.past) (scene_after g.config.cpus before.past) g before is.request.unique shown is.request.operation
    (then-counted g before.past ranges was shown is.was)) all is.does

all-counted : (g : Terms) (turns : List Turn) (after : Service) → IsInRange g.config → TakesTurns g just_mounted turns after → HasCounted g after
all-counted g turns after ranges is =
    (turns-keep g (λ (s : Service). WasDone g s.past × HasCounted g s)
    (λ before turn next both one. (turn-done g before turn next both.0 one, turn-counted g before turn next ranges both.0 both.1 one)) just_mounted turns after
    (record { done = tt; few = omega arith }, All-nil (IsCounted g [])) is).1

-- ---- sizes that are told

all-found : {X : Type 0} (P : X → Type 0) (test : X → Bool) (xs : List X) (x : X) → All P xs → find test xs ≡ Some x → P x
all-found P test [] x all is = absurd (let no : None ≡ Some x = is in cc)
all-found {X} P test (y ∷ ys) x all is = by (test y) (all-found P test ys x (All-tail P y ys all)) is
  where
    by : (b : Bool) → (find test ys ≡ Some x → P x) → cond b (Some y) (find test ys) ≡ Some x → P x
    by true rest e = let same : y ≡ x = cc in subst P same (All-head P y ys all)
    by false rest e = rest e

module _ (g : Terms) (before after : Service) (unique : ℕ) (bytes : List ℕ) (reply : Option Reply) (owner : Owner) (file : File) (telling : Telling) (told-is : bytes ≡ bytes_of_reply unique reply) where
  count-told : Does g before (count_text g before telling owner file) reply after → TellsLength g before telling owner file unique bytes
  count-told (inl does) = inl (told-is ∙ ap (bytes_of_reply unique) does.0)
  count-told (inr does) = inr (told-is ∙ ap (bytes_of_reply unique) does.0)

  counted-told : HasCounted g before → is_there (scene_of g before) (nodes.File owner file) ≡ true → is_log (kind_of_file file) ≡ false
      → (found : Option Counted) → count_of (number_of (nodes.File owner file)) before.counted ≡ found
      → Does g before (size_of_text g before telling owner file found) reply after → TellsLength g before telling owner file unique bytes
  counted-told all there plain-is None at does = count-told does
  counted-told all there plain-is (Some count) at does = by (eqb count.after (length before.past)) refl does
    where
      number : ℕ
      number = number_of (nodes.File owner file)

      by : (recent : Bool) → eqb count.after (length before.past) ≡ recent
          → Does g before (if recent then plain (telling count.size) before.files else count_text g before telling owner file) reply after
          → TellsLength g before telling owner file unique bytes
      by true recent d =
          let counted = all-found (IsCounted g before.past) (is_of_node number) before.counted count all at in
          let named : count.node ≡ number = eqb-true count.node number (found_passes (is_of_node number) before.counted count at) in
          let size : count.size ≡ length (text_now g before owner file) =
          counted.exact (eqb-true count.after (length before.past) recent) owner file there (sym named) plain-is
          ∙ ap (λ (text : List ℕ). length text) (sym (text-same g before owner file (kind_of_file file) plain-is)) in
          inl (told-is ∙ ap (bytes_of_reply unique) d.0 ∙ ap (λ (n : ℕ). reply_bytes unique (telling n)) size)
      by false recent d = count-told d

  kind-told : HasCounted g before → is_there (scene_of g before) (nodes.File owner file) ≡ true → (kind : FileKind) → kind_of_file file ≡ kind → is_shown kind ≡ true
      → (pages : ℕ) → Does g before (size_by_kind g before telling pages owner file kind) reply after → TellsLength g before telling owner file unique bytes
  kind-told all there kinds.Pipe at shown pages does = absurd (false≢true shown)
  kind-told all there kinds.RawPipe at shown pages does = absurd (false≢true shown)
  kind-told all there kinds.Inject at shown pages does = absurd (false≢true shown)
  kind-told all there kinds.ErrorLog at shown pages does = count-told does
  kind-told all there kinds.Tool at shown pages does =
      counted-told all there (ap is_log at) (count_of (number_of (nodes.File owner file)) before.counted) refl does
  kind-told all there kinds.Text at shown pages does =
      counted-told all there (ap is_log at) (count_of (number_of (nodes.File owner file)) before.counted) refl does
  kind-told all there kinds.Trace at shown pages does =
      counted-told all there (ap is_log at) (count_of (number_of (nodes.File owner file)) before.counted) refl does

-- a number names one node
pub named-same : (number : ℕ) (found : Option Node) (node : Node) → IsNamed number found → IsNamed number (Some node) → found ≡ Some node
named-same number None node none named = absurd (none node named.0 named.1)
named-same number (Some other) node one named = ap Some (same_number other node one.0 named.0 (one.1 ∙ sym named.1))

known-same : (g : Terms) (s : Service) (node : Node) → is_there (scene_of g s) node ≡ true
    → get_attributes g s (Some node) ≡ tell_size g s (λ size. replies.Attributes (attributes_of g node size)) 0 node
known-same g s node there = rw there refl

set-same : (g : Terms) (s : Service) (target : Option Node) (valid size : ℕ) → sets_size valid size ≡ false
    → set_attributes g s target valid size ≡ get_attributes g s target
set-same g s target valid size sets = rw sets refl

pub sizes_are_lengths : SizesAreLengths
sizes_are_lengths g turns before after request bytes owner file ranges served is shown there = (
  λ asks named. attributes-told (attributes-step named) (rw asks at is.does),
  λ valid asked asks sets named. attributes-told (set-same g before is.node valid asked sets ∙ attributes-step named) (rw asks at is.does),
  λ name folder asks named found.
      let step = ap (λ (target : Option Node). tell_entry g before request.unique (found_in (scene_of g before) name target))
      (named-same request.node is.node folder is.named named) ∙ ap (tell_entry g before request.unique) found in
      kind-told g before after request.unique bytes is.reply owner file
      (λ size. replies.Entry (entry_number request.unique (nodes.File owner file)) (attributes_of g (nodes.File owner file) size)) is.told all there
      (kind_of_file file) refl shown (2 ^ 40) (subst (λ (s : Step). Does g before s is.reply after) step (rw asks at is.does)),
)
  where
    all : HasCounted g before
    all = all-counted g turns before ranges served

    attributes-step : IsNamed request.node (Some (nodes.File owner file))
        → get_attributes g before is.node
        ≡ tell_size g before (λ size. replies.Attributes (attributes_of g (nodes.File owner file) size)) 0 (nodes.File owner file)
    attributes-step named =
        ap (get_attributes g before) (named-same request.node is.node (nodes.File owner file) is.named named)
        ∙ known-same g before (nodes.File owner file) there

    attributes-told : {step : Step} → step ≡ tell_size g before (λ size. replies.Attributes (attributes_of g (nodes.File owner file) size)) 0 (nodes.File owner file)
        → Does g before step is.reply after
        → TellsLength g before (λ size. replies.Attributes (attributes_of g (nodes.File owner file) size)) owner file request.unique bytes
    attributes-told same does =
        kind-told g before after request.unique bytes is.reply owner file (λ size. replies.Attributes (attributes_of g (nodes.File owner file) size)) is.told all there
        (kind_of_file file) refl shown 0 (subst (λ (s : Step). Does g before s is.reply after) same does)
