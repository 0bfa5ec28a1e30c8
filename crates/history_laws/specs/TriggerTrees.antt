-- Triggers meet the emissions of which the trees of their conditions hold (events.rst, "Event triggers"; histogram.rst, "hist triggers"). The newest
-- request comes first.
use Rattle.std.specs.Prelude.{◌≡◌, ◌↔◌, ℕ, IsTrue, Bool, false, codes, List, ◌∷◌, ◌++◌, length, take, Option, Some, None, ⊤}
use Rattle.std.specs.List.{Contains}
use Rattle.trace_filter.specs.Filters.{Parsed, Passes}
use Rattle.trace_format.specs.Cells.{IsRowOf}
use Rattle.trace_format.specs.Definitions.{Definition}
use Rattle.trace_trigger.specs.HistGrammar as hist
use Rattle.trace_trigger.specs.TriggerGrammar as snapshot
use Rattle.trace_command.specs.Paths.{OfEvent}
use Rattle.trace_command.specs.Requests.{Request, WriteFile}
use Rattle.trace_command.specs.declared.command.Config.{Config}
use Rattle.trace_command.specs.declared.file_name.EventFile.TheVariants as per_event
use Rattle.tracer_specification.specs.Emissions.{Emitted, emitted}
use Rattle.tracer_specification.specs.HistTriggers.{HistTrigger, hist_triggers}
use Rattle.tracer_specification.specs.Pasts.{AreDone}
use Rattle.tracer_specification.specs.Settings.{NumberedEvent, event_named}
use Rattle.tracer_specification.specs.Triggers.{Trigger, passes, snapshot_trigger_of}

-- the condition of a trigger, if one is written, holds of an emission: some tree that it spells does
abbrev pub HoldsOf : Definition → Option (List ℕ) → Emitted → Type 0
HoldsOf event None e = ⊤
HoldsOf event (Some condition) e = Passes event condition (record { values = e.row.values; cpu = e.cpu; pid = e.pid })

-- a trigger with this filter meets just those emissions of its event of which the condition holds
abbrev pub MeetsAsItsTree : Definition → Option Parsed → Option (List ℕ) → Type 0
MeetsAsItsTree event filter condition = (e : Emitted) → IsRowOf event e.row → IsTrue (passes filter e) ↔ HoldsOf event condition e

-- an emission has the event of that name, then and later, and a row of it: so this is said of each emission in a history
abbrev pub EmissionsHaveTheirRows : Type 0
EmissionsHaveTheirRows =
    (past later : List Request) (request : Request) (e : Emitted) (k : NumberedEvent) → emitted past request ≡ Some e
    → event_named e.k.event.name (later ++ request ∷ past) ≡ Some k → (e.k ≡ k) × IsRowOf k.event e.row

-- a string was written to an event's trigger file, after so many requests
pub record WasWritten (instance : Option (List ℕ)) (event : Definition) (number : ℕ) (text : List ℕ) (past : List Request) : Type 0 where
  pub later : List Request
  pub append : Bool
  pub before : List Request
  pub cut : past ≡ later ++ WriteFile instance (Some (OfEvent event.name per_event.Trigger)) append text ∷ before
  pub after : number ≡ length before

-- such a string attached a snapshot trigger: with its count, and with the condition by which it meets emissions
pub record SnapshotMeets (instance : Option (List ℕ)) (event : Definition) (t : Trigger) (past : List Request) : Type 0 where
  pub text : List ℕ
  pub condition : Option (List ℕ)
  pub by : WasWritten instance event t.number text past
  pub written : snapshot.IsWritten text false t.spec.count condition
  pub meets : MeetsAsItsTree event t.spec.filter condition

abbrev pub SnapshotTriggersMeetAsTheirTrees : Type 0
SnapshotTriggersMeetAsTheirTrees =
    (g : Config) (past : List Request) (instance : Option (List ℕ)) (name : List ℕ) (k : NumberedEvent) (t : Trigger)
    → AreDone g past → event_named name past ≡ Some k → snapshot_trigger_of instance k.event past ≡ Some t
    → SnapshotMeets instance k.event t past

-- and such a string attached a hist trigger
pub record HistMeets (instance : Option (List ℕ)) (t : HistTrigger) (past : List Request) : Type 0 where
  pub text : List ℕ
  pub settings : List hist.Setting
  pub condition : Option (List ℕ)
  pub by : WasWritten instance t.event t.number text past
  pub begins : take 5 text ≡ codes "hist:"
  pub written : hist.IsWritten text settings condition
  pub meets : MeetsAsItsTree t.event t.spec.filter condition

abbrev pub HistTriggersMeetAsTheirTrees : Type 0
HistTriggersMeetAsTheirTrees =
    (g : Config) (past : List Request) (instance : Option (List ℕ)) (t : HistTrigger)
    → AreDone g past → Contains (hist_triggers instance past) t → HistMeets instance t past
