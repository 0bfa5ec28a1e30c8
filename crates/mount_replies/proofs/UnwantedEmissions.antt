-- An emission of an event that an instance does not want leaves what its pipes give. No emission makes an event wanted.
use Rattle.std.proofs.Common.{◌≡◌, ℕ, suc, zero, ℤ, ◌+◌, ◌-◌, ◌<◌, ◌%◌, ◌==◌, Bool, true, false, ◌&&◌, ◌||◌, if◌then◌else◌, IsTrue, bytes_eq, List, [], ◌∷◌, length, get_or, Option, None, Some, option_map, Result, Ok, Err, refl, sym, ap, ◌∙◌, subst, arith}
use Rattle.std.specs.List.{list_any}
use Rattle.std.proofs.lemmas.Bool.{cond-false, false≢true, ltb-false}
use Rattle.std.proofs.lemmas.List.{append-nil}
use Rattle.std.proofs.lemmas.Option.{get_or_from_slice_get, slice_get_within}
use Rattle.page_ring.specs.Events as ring
use Rattle.trace_buffer.specs.Families.{with_events}
use Rattle.trace_lex.specs.Names.{is_name}
use Rattle.trace_format.specs.Catalogs.{event_of}
use Rattle.trace_format.specs.Cells.{Cells}
use Rattle.trace_format.specs.Definitions.{Definition}
use Rattle.trace_format.specs.Rows.{row_of}
use Rattle.trace_format.specs.Values.{pairs_given}
use Rattle.trace_format.specs.declared.bad_row.BadRow.{BadRow}
use Rattle.trace_format.specs.declared.field_value.FieldValue.{FieldValue}
use Rattle.trace_format.specs.declared.pair.Pair.{Pair}
use Rattle.trace_command.specs.Paths.{File, SyntheticEvents, OfInstance, OfCpu, OfEvent}
use Rattle.trace_command.specs.Requests.{Request, Emission}
use Rattle.trace_command.specs.declared.command.Config.{Config}
use Rattle.trace_command.specs.declared.file_name.CpuFile.TheVariants as per_cpu
use Rattle.trace_command.specs.declared.file_name.TopFile.TheVariants as top
use Rattle.trace_command.specs.declared.refusal.Refusal.{Refusal}
use Rattle.trace_command.specs.declared.refusal.Refusal.TheVariants.{NoSuchInstance}
use Rattle.tracer_specification.specs.Emissions.{Emitted, emitted, emitted_bytes, emitted_event, emitted_row, filter_holds}
use Rattle.tracer_specification.specs.History.{missing, unless_refused}
use Rattle.tracer_specification.specs.IdleEvents.{has_active_hist, has_times_left, records, wants}
use Rattle.tracer_specification.specs.Pasts.{AreDone}
use Rattle.tracer_specification.specs.Rings.{rings, rings_after, rings_of_side, spare_after, with_emitted}
use Rattle.tracer_specification.specs.Settings.{NumberedEvent, declared_events, event_named, event_named_in, filter_of, instance_names, is_enabled, is_there, is_tracing, now_of, overwrites}
use Rattle.tracer_specification.specs.Snapshots.{exchange_count, is_exchanged_by, live_side}
use Rattle.tracer_specification.specs.Triggers.{Trigger, acts, is_left, met_by, passes, snapshot_trigger_of, times_left}
use Rattle.tracer_specification.specs.Waiting.{waiting, waits_in}
use Rattle.tracer_specification.proofs.EventLists.{named_at}
use Rattle.tracer_specification.proofs.Events.{index_of_id}
use Rattle.tracer_specification.proofs.LegalEvents.{done-events, named-is_definition, named-is_numbered}
use Rattle.tracer_specification.proofs.Members.{both-false}
use Rattle.tracer_specification.proofs.Triggered.{number-before, times_left-less, times_left-same}
use Rattle.tracer_state.specs.ValueEmissions.{emission_of}

-- ---- what is emitted

-- what is emitted, if anything is, is of an event that an instance does not want
abbrev pub IsUnwantedHere : Option (List ℕ) → List Request → Option Emitted → Type 0
IsUnwantedHere instance past None = Unit {0}
IsUnwantedHere instance past (Some e) = wants instance e.k.event past ≡ false

unwritten : (tracing enabled holds : Bool) → (tracing && enabled) ≡ false → (tracing && (enabled && holds)) ≡ false
unwritten true true holds is = absurd (false≢true (sym is))
unwritten true false holds is = refl
unwritten false enabled holds is = refl

-- it is not recorded there
unrecorded : (instance : Option (List ℕ)) (past : List Request) (o : Option Emitted) (family : List (List ring.Event)) → IsUnwantedHere instance past o
    → with_emitted instance past o family ≡ family
unrecorded instance past None family is = refl
unrecorded instance past (Some e) family is =
    let off = both-false (records instance e.k.event past)
    (has_active_hist instance e.k.event past || has_times_left e.k.event (snapshot_trigger_of instance e.k.event past) past) is in
    cond-false _ (with_events e.cpu (ring.Put (emitted_bytes e) (overwrites instance past) ∷ []) family) family
    (unwritten (is_tracing instance past) (is_enabled instance e.k.event.name past)
    (filter_holds e.k.event (filter_of instance e.k.event.name past) e.row e.cpu e.pid) off.0)

-- and takes no snapshot
unexchanged : (instance : Option (List ℕ)) (past : List Request) (o : Option Emitted) → IsUnwantedHere instance past o → is_exchanged_by instance past o ≡ false
unexchanged instance past None is = refl
unexchanged instance past (Some e) is =
    let off = both-false (records instance e.k.event past)
    (has_active_hist instance e.k.event past || has_times_left e.k.event (snapshot_trigger_of instance e.k.event past) past) is in
    let none = both-false (has_active_hist instance e.k.event past) (has_times_left e.k.event (snapshot_trigger_of instance e.k.event past) past) off.1 in
    by (snapshot_trigger_of instance e.k.event past) none.1
  where
    by : (t : Option Trigger) → has_times_left e.k.event t past ≡ false → acts past e t ≡ false
    by None spent_all = refl
    by (Some t) spent_all = ap (λ (b : Bool). b && passes t.spec.filter e) spent_all

-- no times left are none less
spent : (times : Option ℕ) → is_left times ≡ false → option_map (λ (n : ℕ). n - 1) times ≡ times
spent None is = absurd (false≢true (sym is))
spent (Some n) is = ap Some (let le = ltb-false 0 n is in omega (arith, le))

all-false : (x y z : Bool) → x ≡ false → y ≡ false → z ≡ false → (x || (y || z)) ≡ false
all-false x y z one two three = rw (one, two, three) refl

-- ---- one more emission

module _ (past : List Request) (name : List ℕ) (cpu : ℕ) (pid : ℤ) (pairs : List Pair) where
  abbrev emission : Request
  emission = Emission name cpu pid pairs

  abbrev after : List Request
  after = emission ∷ past

  sides-same : (g : Config) (instance : Option (List ℕ)) (side : ℕ) → IsUnwantedHere instance past (emitted past emission)
      → rings_of_side g instance side after ≡ rings_of_side g instance side past
  sides-same g instance side is = by (side == live_side instance past)
    where
      family : List (List ring.Event)
      family = rings_of_side g instance side past

      by : (live : Bool) → (if live then rings_after g instance past emission family else spare_after g instance emission family) ≡ family
      by true = unrecorded instance past (emitted past emission) family is
      by false = refl

  count-same : (instance : Option (List ℕ)) → IsUnwantedHere instance past (emitted past emission) → exchange_count instance after ≡ exchange_count instance past
  count-same instance is =
      let stays : exchange_count instance past + 0 ≡ exchange_count instance past = omega arith in
      ap (λ (b : Bool). exchange_count instance past + (if b then 1 else 0)) (unexchanged instance past (emitted past emission) is) ∙ stays

  rings-same : (g : Config) (instance : Option (List ℕ)) → IsUnwantedHere instance past (emitted past emission) → rings g instance after ≡ rings g instance past
  rings-same g instance is =
      ap (λ (n : ℕ). rings_of_side g instance (n % 2) after) (count-same instance is) ∙ sides-same g instance (live_side instance past) is

  there-same : (instance : Option (List ℕ)) → is_there instance after ≡ is_there instance past
  there-same None = refl
  there-same (Some other) = ap (list_any (bytes_eq other)) (append-nil (instance_names past))

  missing-same : (g : Config) (file : File) → missing g after file ≡ missing g past file
  missing-same g SyntheticEvents = refl
  missing-same g (OfInstance file) = refl
  missing-same g (OfCpu other file) = refl
  missing-same g (OfEvent event file) =
      let named : event_named event after ≡ event_named event past =
      ap (λ (events : List Definition). event_named_in events event) (append-nil (declared_events past)) in
      rw named refl

  waits-same : (g : Config) (instance : Option (List ℕ)) (file : File) → IsUnwantedHere instance past (emitted past emission)
      → waits_in g instance after file ≡ waits_in g instance past file
  waits-same g instance (OfInstance top.TracePipe) is = rw (rings-same g instance is) refl
  waits-same g instance (OfCpu other per_cpu.TracePipe) is = rw (rings-same g instance is) refl
  waits-same g instance (OfInstance top.EventsFilter) is = refl
  waits-same g instance file is = refl

  -- a look at whether a record waits in a pipe of an instance that does not want it tells the same
  pub waiting-same : (g : Config) (instance : Option (List ℕ)) (file : Option File) → IsUnwantedHere instance past (emitted past emission)
      → waiting g after instance file ≡ waiting g past instance file
  unfolding waiting
  waiting-same g instance None is = rw (there-same instance) refl
  waiting-same g instance (Some file) is =
      ap (λ (there : Bool). if there then unless_refused (missing g after file) (waits_in g instance after file) else Err NoSuchInstance) (there-same instance)
      ∙ ap (λ (lost : Option Refusal). if is_there instance past then unless_refused lost (waits_in g instance after file) else Err NoSuchInstance)
      (missing-same g file)
      ∙ ap (λ (told : Result Bool Refusal). if is_there instance past then unless_refused (missing g past file) told else Err NoSuchInstance)
      (waits-same g instance file is)

  left-stay : (instance : Option (List ℕ)) (event : Definition) (t : Option Trigger) → snapshot_trigger_of instance event past ≡ t
      → has_times_left event t past ≡ false → has_times_left event t after ≡ false
  left-stay instance event None is none = refl
  left-stay instance event (Some t) is none = by (emitted past emission) refl
    where
      before : t.number < length past
      before = number-before instance event past t is

      met : (e : Emitted) (b : Bool) → met_by event t.spec.filter (emitted past emission) ≡ (if b then e ∷ [] else [])
          → is_left (times_left event t after) ≡ false
      met e true same =
          ap is_left (times_left-less event t past emission e before same ∙ spent (times_left event t past) none) ∙ none
      met e false same = ap is_left (times_left-same event t past emission before same) ∙ none

      by : (o : Option Emitted) → emitted past emission ≡ o → is_left (times_left event t after) ≡ false
      by None same = ap is_left (times_left-same event t past emission before (ap (met_by event t.spec.filter) same)) ∙ none
      by (Some e) same = met e (bytes_eq event.name e.k.event.name && passes t.spec.filter e) (ap (met_by event t.spec.filter) same)

  -- an event that is not wanted is not wanted after it
  pub wants-stay : (instance : Option (List ℕ)) (event : Definition) → wants instance event past ≡ false → wants instance event after ≡ false
  wants-stay instance event is =
      let off = both-false (records instance event past)
      (has_active_hist instance event past || has_times_left event (snapshot_trigger_of instance event past) past) is in
      let none = both-false (has_active_hist instance event past) (has_times_left event (snapshot_trigger_of instance event past) past) off.1 in
      all-false (records instance event past) (has_active_hist instance event past) (has_times_left event (snapshot_trigger_of instance event past) after)
      off.0 none.0 (left-stay instance event (snapshot_trigger_of instance event past) refl none.1)

-- ---- emissions by values

-- no event has the empty name
unnamed : (name : List ℕ) → bytes_eq [] name ≡ true → IsTrue (is_name name) → ⊥
unnamed [] same is = false≢true is
unnamed (b ∷ bs) same is = false≢true same

no-unnamed : (g : Config) (past : List Request) → AreDone g past → event_named [] past ≡ None
no-unnamed g past done = by (event_named [] past) refl
  where
    by : (found : Option NumberedEvent) → event_named [] past ≡ found → found ≡ None
    by None is = refl
    by (Some k) is =
        let numbered = named-is_numbered (declared_events past) [] k is in
        let index = index_of_id (declared_events past) [] k.id k.event numbered.named numbered.there in
        absurd (unnamed k.event.name index.named (named-is_definition g past [] k done is).named)

-- the event of a number is the one of its name, since no two have one
named-of : (g : Config) (past : List Request) (number : ℕ) (event : Definition) → AreDone g past → event_of (declared_events past) number ≡ Some event
    → event_named event.name past ≡ Some (record { id = number; event = event })
named-of g past zero event done there = absurd cc
named-of g past (suc index) event done there =
    let events = declared_events past in
    let inside : index < length events = slice_get_within events index event there in
    let is : get_or events index event ≡ event = get_or_from_slice_get events index event event there in
    let found = named_at events index event (done-events g past done).are inside in
    subst (λ (e : Definition). event_named e.name past ≡ Some (let k : NumberedEvent = record { id = suc index; event = e } in k)) is found

-- what is emitted by values is of the event of the number
pub unwanted-emitted : (g : Config) (past : List Request) (instance : Option (List ℕ)) (number cpu : ℕ) (pid : ℤ) (values : List FieldValue)
    (found : Option Definition) → AreDone g past → event_of (declared_events past) number ≡ found
    → ((event : Definition) → event_of (declared_events past) number ≡ Some event → wants instance event past ≡ false)
    → IsUnwantedHere instance past (emitted past (emission_of found cpu pid values))
unwanted-emitted g past instance number cpu pid values None done is none =
    subst (λ (named : Option NumberedEvent). IsUnwantedHere instance past (emitted_event (now_of past + 1) cpu pid [] named)) (sym (no-unnamed g past done)) tt
unwanted-emitted g past instance number cpu pid values (Some event) done is none =
    subst (λ (named : Option NumberedEvent). IsUnwantedHere instance past (emitted_event (now_of past + 1) cpu pid (pairs_given event.fields values) named))
    (sym (named-of g past number event done is)) (by (row_of event (pairs_given event.fields values)))
  where
    by : (row : Result Cells BadRow) → IsUnwantedHere instance past (emitted_row (now_of past + 1) cpu pid (record { id = number; event = event }) row)
    by (Ok cells) = none event is
    by (Err bad) = tt
