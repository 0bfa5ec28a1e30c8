-- Events that are found by their numbers, and what an emission of one answers.
use Rattle.std.proofs.Common.{◌≡◌, ℕ, zero, suc, ℤ, ◌+◌, ◌<◌, ◌≤◌, false, nat_lt, List, [], ◌∷◌, ◌++◌, length, IfSome, Option, None, Some, Err, bytes_eq, refl, sym, ap, ◌∙◌, arith}
use Rattle.std.specs.Bool.{IsTrue}
use Rattle.std.specs.Option.{option_map}
use Rattle.std.proofs.lemmas.Bool.{false≢true, lt-ltb}
use Rattle.std.proofs.lemmas.Bool.Decides.{nat_tests}
use Rattle.std.proofs.lemmas.Option.{slice_get_past}
use Rattle.trace_lex.specs.Names.{is_name}
use Rattle.trace_format.specs.Catalogs.{AreEvents, event_of, id_of}
use Rattle.trace_format.specs.Definitions.{Definition}
use Rattle.trace_format.specs.Rows.{IsBuilt, row_of}
use Rattle.trace_format.specs.Values.{pairs_given}
use Rattle.trace_format.specs.declared.bad_row.BadRow.{BadRow as WrongRow}
use Rattle.trace_format.specs.declared.fault.RowFault.{RowFault}
use Rattle.trace_format.specs.declared.fault.RowFault.TheVariants as fault
use Rattle.trace_format.specs.declared.field_value.FieldValue.{FieldValue}
use Rattle.trace_format.specs.declared.pair.Pair.{Pair}
use Rattle.trace_command.specs.Refusals.{IsRefusal, refusal_of_row}
use Rattle.trace_command.specs.Requests.{Request, Emission}
use Rattle.trace_command.specs.declared.command.Config.{Config}
use Rattle.trace_command.specs.declared.refusal.Refusal.TheVariants.{BadRow, Memory, NoSuchCpu, NoSuchEvent}
use Rattle.tracer_specification.specs.Declarations.{IsIndexOf}
use Rattle.tracer_specification.specs.History.{answer_with_room, emission_answer}
use Rattle.tracer_specification.specs.LateMemory.{TakesMemoryLate}
use Rattle.tracer_specification.specs.Settings.{NumberedEvent, declared_events, event_named, event_named_in, numbered_event}
use Rattle.tracer_specification.proofs.Events.{found_from, named_in-found}
use Rattle.tracer_state.specs.private.Found.{numbered}
use Rattle.tracer_state.specs.States.{StandsFor}
use Rattle.tracer_state.specs.ValueEmissions.{emission_of, values_emission}
use Rattle.tracer_state.specs.declared.resolve.Found.{Found}
use Rattle.tracer_state.specs.declared.state.State.{State}
use Rattle.tracer_state.proofs.Emitting.{found-late}

-- ---- an event of a number

-- no event has a number above that of the last
pub none-beyond : (events : List Definition) (number : ℕ) → length events < number → event_of events number ≡ None
none-beyond events zero beyond = refl
none-beyond events (suc index) beyond = slice_get_past events index (omega (arith, beyond))

pub event-numbered : (events : List Definition) (id : ℕ) (found : Option Found) → option_map numbered found ≡ numbered_event events id
    → option_map (λ (f : Found). f.event.now) found ≡ event_of events id
event-numbered events id found is = by found (event_of events id) is
  where
    by : (f : Option Found) (e : Option Definition) → option_map numbered f ≡ option_map (λ (event : Definition). record { id = id; event = event }) e
        → option_map (λ (x : Found). x.event.now) f ≡ e
    by None None is = refl
    by None (Some e) is = absurd (cc)
    by (Some f) None is = absurd (cc)
    by (Some f) (Some e) is = ap (option_map (λ (k : NumberedEvent). k.event)) is

pub named-numbered : (events : List Definition) (id : ℕ) (found : Option Found) → option_map numbered found ≡ numbered_event events id
    → IfSome found (λ (f : Found). id_of events f.event.now.name ≡ Some id)
    → IfSome found (λ (f : Found). event_named_in events f.event.now.name ≡ Some (numbered f))
named-numbered events id None is named = tt
named-numbered events id (Some f) is named = rw named (sym is)

pub index-numbered : (events : List Definition) (id : ℕ) (found : Option Found)
    → ((name : List ℕ) → id_of events name ≡ Some id → IfSome found (λ (f : Found). IsIndexOf events name f.index f.event.now))
    → IfSome found (λ (f : Found). id_of events f.event.now.name ≡ Some id)
    → IfSome found (λ (f : Found). IsIndexOf events f.event.now.name f.index f.event.now)
index-numbered events id None indexed named = tt
index-numbered events id (Some f) indexed named = indexed f.event.now.name named

-- ---- no event has the empty name

unnamed : (name : List ℕ) → IsTrue (is_name name) → bytes_eq [] name ≡ false
unnamed [] is = absurd (false≢true is)
unnamed (b ∷ bs) is = refl

none-unnamed : (id : ℕ) (before events : List Definition) → AreEvents before events → found_from id [] events ≡ None
none-unnamed id before [] are = refl
none-unnamed id before (event ∷ events) are =
    rw (unnamed event.name are.0.defined.named) (none-unnamed (id + 1) (before ++ event ∷ []) events are.1)

no-unnamed : (past : List Request) → AreEvents [] (declared_events past) → event_named [] past ≡ None
no-unnamed past are = named_in-found [] (declared_events past) ∙ none-unnamed 1 [] (declared_events past) are

-- ---- answers

-- the emission of an event of a state
pub values-found : (g : Config) (state : State) (past : List Request) (number cpu : ℕ) (pid : ℤ) (values : List FieldValue) (event : Definition)
    → StandsFor g state past → Some event ≡ event_of state.catalog number
    → values_emission (declared_events past) number cpu pid values ≡ Emission event.name cpu pid (pairs_given event.fields values)
values-found g state past number cpu pid values event stands found = rw (← stands.events, ← found) refl

-- its CPU is looked at first
pub no-cpu : (g : Config) (past : List Request) (event : Option Definition) (cpu : ℕ) (pid : ℤ) (values : List FieldValue) → g.cpus ≤ cpu
    → answer_with_room g past (emission_of event cpu pid values) ≡ Err NoSuchCpu
unfolding emission_answer
no-cpu g past None cpu pid values outside = let no : nat_lt cpu g.cpus ≡ false = grind (arith, nat_tests) in rw no refl
no-cpu g past (Some event) cpu pid values outside = let no : nat_lt cpu g.cpus ≡ false = grind (arith, nat_tests) in rw no refl

-- then its event
pub no-event : (g : Config) (state : State) (past : List Request) (number cpu : ℕ) (pid : ℤ) (values : List FieldValue) → StandsFor g state past
    → None ≡ event_of state.catalog number → cpu < g.cpus
    → answer_with_room g past (values_emission (declared_events past) number cpu pid values) ≡ Err NoSuchEvent
unfolding emission_answer
no-event g state past number cpu pid values stands none inside =
    rw (← stands.events, ← none, lt-ltb cpu g.cpus inside, no-unnamed past stands.distinct) refl

-- then its row
bad-row : (g : Config) (past : List Request) (name : List ℕ) (cpu : ℕ) (pairs : List Pair) (k : NumberedEvent) (bad : WrongRow) → cpu < g.cpus
    → event_named name past ≡ Some k → row_of k.event pairs ≡ Err bad → emission_answer g past name cpu pairs ≡ Err (BadRow bad)
unfolding emission_answer
bad-row g past name cpu pairs k bad inside there built = rw (lt-ltb cpu g.cpus inside, there, built) refl

-- and then memory may be refused
pub no-memory : (g : Config) (past : List Request) (name : List ℕ) (cpu : ℕ) (pairs : List Pair) (k : NumberedEvent) → cpu < g.cpus
    → event_named name past ≡ Some k → IsRefusal Memory (emission_answer g past name cpu pairs)
no-memory g past name cpu pairs k inside there =
    (λ other. absurd (other refl), λ early. absurd (found-late g past name cpu pairs k inside there early))

pub no-row : (g : Config) (past : List Request) (name : List ℕ) (cpu : ℕ) (pairs : List Pair) (k : NumberedEvent) (refused : RowFault) → cpu < g.cpus
    → event_named name past ≡ Some k → IsBuilt (Err refused) (row_of k.event pairs)
    → IsRefusal (refusal_of_row refused) (emission_answer g past name cpu pairs)
no-row g past name cpu pairs k (fault.BadRow bad) inside there built =
    let is : emission_answer g past name cpu pairs ≡ Err (BadRow bad) = bad-row g past name cpu pairs k bad inside there built in
    (λ other. is, λ early. is)
no-row g past name cpu pairs k fault.Memory inside there built = no-memory g past name cpu pairs k inside there

-- no emission takes its memory late
pub not-late : (events : List Definition) (number cpu : ℕ) (pid : ℤ) (values : List FieldValue)
    → TakesMemoryLate (values_emission events number cpu pid values) → ⊥
not-late events number cpu pid values = by (event_of events number)
  where
    by : (event : Option Definition) → TakesMemoryLate (emission_of event cpu pid values) → ⊥
    by None takes = absurd takes
    by (Some event) takes = absurd takes
