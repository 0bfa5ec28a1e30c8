-- What a trigger text changes of an event's triggers, by what an instance keeps of them.
use Rattle.std.specs.Prelude.{◌≡◌, ℕ, ◌+◌, Bool, true, false, is_some, if◌then◌else◌, List, [], ◌∷◌, length, map, Option, Some, None, Result, Ok, Err}
use Rattle.std.specs.List.{find}
use Rattle.trace_format.specs.Catalogs.{AreEvents}
use Rattle.trace_format.specs.Definitions.{Definition}
use Rattle.trace_trigger.specs.HistSpecs.{SpecSeen}
use Rattle.trace_trigger.specs.declared.spec.Action.{Action}
use Rattle.trace_trigger.specs.declared.spec.Action.TheVariants as action
use Rattle.trace_trigger.specs.TriggerTexts.{said_of}
use Rattle.trace_trigger.specs.declared.trigger.SnapshotTrigger.{SnapshotTrigger}
use Rattle.trace_trigger.specs.declared.trigger.TriggerText.{TriggerText}
use Rattle.trace_trigger.specs.declared.trigger.TriggerText.TheVariants as said
use Rattle.trace_command.specs.Paths.{OfEvent}
use Rattle.trace_command.specs.Refusals.{IsRefusal}
use Rattle.trace_command.specs.Requests.{Request, WriteFile}
use Rattle.trace_command.specs.declared.command.Reply.TheVariants.{Done}
use Rattle.trace_command.specs.declared.file_name.EventFile.TheVariants as per_event
use Rattle.trace_command.specs.declared.refusal.Refusal.{Refusal}
use Rattle.trace_command.specs.declared.refusal.Refusal.TheVariants.{Memory, TriggerExists}
use Rattle.tracer_specification.specs.History.{trigger_answer}
use Rattle.tracer_specification.specs.Settings.{declared_events, event_named}
use Rattle.tracer_specification.specs.Declarations.{IsIndexOf}
use Rattle.tracer_specification.specs.Snapshots.{spare_armed}
use Rattle.trace_instance.specs.Changes.{IsAsked as IsAskedOf, IsJoinedBy, IsPossible, asks_triggers, hists_changed, trigger_changed}
use Rattle.trace_instance.specs.Instances.{TablesFit, kept_trigger}
use Rattle.trace_instance.specs.KeptHists.{kept_hists, says_same}
use Rattle.trace_trigger.specs.FittingSpecs.{is_fitting}
use Rattle.trace_hist.specs.Hists.{StandsFor}
use Rattle.tracer_specification.specs.HistTriggers.{is_pause}
use Rattle.trace_instance.specs.EventLists.{all_hists}
use Rattle.trace_instance.specs.declared.hists.AttachedHist.{AttachedHist}
use Rattle.trace_instance.specs.declared.attach.EventTriggers.{EventTriggers}
use Rattle.trace_instance.specs.declared.change.TriggerChange.{TriggerChange}
use Rattle.trace_instance.specs.declared.change.TriggerChange.TheVariants.{AttachSnapshot, AttachHist, MakeHist, AskTable}
use Rattle.trace_instance.specs.declared.write.WrittenText.{WrittenText}

-- the event is declared, at this index, and what is kept of its triggers and of the hist triggers of all events agrees with the requests
pub record AreKept (name : Option (List ℕ)) (past : List Request) (event : Definition) (triggers : EventTriggers) : Type 0 where
  pub id : ℕ
  pub named : event_named event.name past ≡ Some (record { id = id; event = event })
  pub snapshot : triggers.own.now.triggers.snapshot ≡ kept_trigger name past event
  pub hists : triggers.own.now.triggers.hists ≡ kept_hists name past event
  pub all : all_hists triggers.all.now ≡ map (kept_hists name past) (declared_events past)
  pub index : IsIndexOf (declared_events past) event.name triggers.event event
  pub distinct : AreEvents [] (declared_events past)
  pub fitting : TablesFit name past

-- the request that writes a text to the event's trigger file
abbrev pub write_of : Option (List ℕ) → Definition → WrittenText → Request
write_of name event written = WriteFile name (Some (OfEvent event.name per_event.Trigger)) written.append written.text.now

-- whether there is a spare after a change: a hist trigger needs none
abbrev pub arms : TriggerChange → Option Bool
arms (AttachSnapshot trigger) = Some true
arms change = None

-- a change says of an event's triggers what the definitions say of such a request
pub record IsTriggerEffect (name : Option (List ℕ)) (past : List Request) (event : Definition) (written : WrittenText) (change : TriggerChange) : Type 0 where
  pub snapshot : kept_trigger name (write_of name event written ∷ past) event ≡ trigger_changed change (kept_trigger name past event)
  pub hists : kept_hists name (write_of name event written ∷ past) event
      ≡ hists_changed change (if written.append then kept_hists name past event else [])
  pub possible : IsPossible change (kept_trigger name past event) (if written.append then kept_hists name past event else [])
  pub tables : (number : ℕ) → IsAskedOf name past (write_of name event written) (asks_triggers change number) number
  pub joined : IsJoinedBy name past change
  pub fitting : TablesFit name past → TablesFit name (write_of name event written ∷ past)
  pub spare : spare_armed (said_of event written.text.now) ≡ arms change

abbrev pub IsTriggerChange : Option (List ℕ) → List Request → Definition → WrittenText → Result TriggerChange Refusal → Type 0
IsTriggerChange name past event written (Ok change) =
    (trigger_answer name past written.append written.text.now event ≡ Ok Done) × IsTriggerEffect name past event written change
IsTriggerChange name past event written (Err refusal) = IsRefusal refusal (trigger_answer name past written.append written.text.now event)

-- what a text changes, after as many requests as its number says
abbrev pub IsChangeOf : Definition → EventTriggers → WrittenText → Result TriggerChange Refusal → Type 0
IsChangeOf event triggers written result =
    (name : Option (List ℕ)) (past : List Request) → length past ≡ written.number → AreKept name past event triggers
    → IsTriggerChange name past event written result

-- ---- the parts of it

-- how many triggers there are, of those that `>` or `>>` leaves
abbrev pub kept_count : EventTriggers → Bool → ℕ
kept_count triggers append = (if append then length triggers.own.now.triggers.hists else 0) + (if is_some triggers.own.now.triggers.snapshot then 1 else 0)

-- the hist trigger that says the same, of those that `>` or `>>` leaves
abbrev pub same_left : SpecSeen → EventTriggers → Bool → Option AttachedHist
same_left spec triggers append = if append then find (says_same spec) triggers.own.now.triggers.hists else None

-- what is changed by a text that says this
abbrev pub IsSaidChange : TriggerText → EventTriggers → WrittenText → Result TriggerChange Refusal → Type 0
IsSaidChange what triggers written result =
    (event : Definition) (name : Option (List ℕ)) (past : List Request) → length past ≡ written.number → AreKept name past event triggers
    → said_of event written.text.now ≡ Ok what → IsTriggerChange name past event written result

-- a trigger for snapshots
abbrev pub IsAttached : SnapshotTrigger → EventTriggers → WrittenText → Result TriggerChange Refusal → Type 0
IsAttached trigger = IsSaidChange (said.AttachSnapshot trigger)

-- a hist trigger of this event
abbrev pub IsAsked : SpecSeen → EventTriggers → WrittenText → Result TriggerChange Refusal → Type 0
IsAsked spec = IsSaidChange (said.Hist spec)

-- a hist trigger that is removed
abbrev pub IsRemovedHist : SpecSeen → EventTriggers → WrittenText → Result TriggerChange Refusal → Type 0
IsRemovedHist spec = IsSaidChange (said.RemoveHist spec)

-- what is changed where the one that says the same has this table
abbrev pub asked_change : ℕ → Action → Result TriggerChange Refusal
asked_change table action.Attach = Err TriggerExists
asked_change table asked = Ok (AskTable table asked)

-- whether a hist trigger is attached where none says the same
abbrev pub attaches : Action → Bool
attaches action.Attach = true
attaches action.Pause = true
attaches action.Continue = false
attaches action.Clear = false

-- ---- a hist trigger that is attached

-- it counts in the table of another one, if it fits that and there is memory
abbrev pub IsJoinedChange : ℕ → SpecSeen → AttachedHist → Result TriggerChange Refusal → Type 0
IsJoinedChange number spec other (Ok (AttachHist attached)) =
    (is_fitting spec other.spec ≡ true) × (attached ≡ record { number = number; table = other.table; spec = spec })
IsJoinedChange number spec other (Ok change) = ⊥
IsJoinedChange number spec other (Err refusal) = refusal ≡ (if is_fitting spec other.spec then Memory else TriggerExists)

-- a table is made with it, if there is memory
abbrev pub IsMadeChange : ℕ → SpecSeen → Result TriggerChange Refusal → Type 0
IsMadeChange number spec (Ok (MakeHist made)) =
    (made.value.attached ≡ record { number = number; table = number; spec = spec }) × (made.value.hist.spec ≡ spec) × StandsFor made.value.hist []
    × (made.value.hist.paused ≡ is_pause spec.action)
IsMadeChange number spec (Ok change) = ⊥
IsMadeChange number spec (Err refusal) = refusal ≡ Memory
