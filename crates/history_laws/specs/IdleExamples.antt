-- Small pasts after which an event is idle, or is wanted, worked by hand. The checker computes them.
use Rattle.std.specs.Prelude.{◌≡◌, ℕ, Bool, true, false, List, [], ◌∷◌, Option, Some, codes}
use Rattle.std.specs.Option.{option_map}
use Rattle.trace_command.specs.Commands.{Command}
use Rattle.trace_command.specs.declared.command.CommandOf.TheVariants.{Mkdir, Rmdir}
use Rattle.tracer_specification.specs.Examples.{append, echo, tick}
use Rattle.tracer_specification.specs.HistTriggerExamples.{tock_trigger_file}
use Rattle.tracer_specification.specs.Settings.{NumberedEvent, event_named}
use Rattle.tracer_specification.specs.SnapshotExamples.{in_instance, trigger_file}
use Rattle.tracer_specification.specs.IdleEvents.{is_idle}
use Rattle.history_laws.specs.SmallPasts.{after_tick, past_of}

-- whether `tick` is idle after these commands, if it is declared by then
abbrev pub tick_is_idle : List Command → Option Bool
tick_is_idle commands = option_map (λ (k : NumberedEvent). is_idle k.event (past_of commands)) (event_named (codes "tick") (past_of commands))

-- `tick` is declared, and not switched on
abbrev pub declared : List Command → List Command
declared commands = echo (codes "tick u64 n") (codes "synthetic_events") ∷ commands

abbrev pub tracing_on : List ℕ → Command
tracing_on text = echo text (codes "tracing_on")

-- Of an event that no trigger is attached to, the switches decide, and not its filter.
pub record SwitchesDecide : Type 0 where
  pub disabled : tick_is_idle (declared []) ≡ Some true
  pub enabled : tick_is_idle (after_tick []) ≡ Some false
  pub off : tick_is_idle (after_tick (tracing_on (codes "0") ∷ [])) ≡ Some true
  pub on_again : tick_is_idle (after_tick (tracing_on (codes "0") ∷ tracing_on (codes "1") ∷ [])) ≡ Some false
  pub filtered : tick_is_idle (after_tick (echo (codes "n > 5") (codes "events/synthetic/tick/filter") ∷ [])) ≡ Some false

-- A hist trigger wants an event that is disabled or not traced, unless it is paused, and until it is removed.
pub record ActiveHistsWant : Type 0 where
  pub active : tick_is_idle (declared (append (codes "hist:keys=n") trigger_file ∷ [])) ≡ Some false
  pub paused : tick_is_idle (declared (append (codes "hist:keys=n:pause") trigger_file ∷ [])) ≡ Some true
  pub continued :
      tick_is_idle (declared (append (codes "hist:keys=n:pause") trigger_file ∷ append (codes "hist:keys=n:continue") trigger_file ∷ [])) ≡ Some false
  pub beside :
      tick_is_idle (declared (append (codes "hist:keys=n:pause") trigger_file ∷ append (codes "hist:keys=common_pid") trigger_file ∷ [])) ≡ Some false
  pub untraced : tick_is_idle (after_tick (tracing_on (codes "0") ∷ append (codes "hist:keys=n") trigger_file ∷ [])) ≡ Some false
  pub removed : tick_is_idle (declared (append (codes "hist:keys=n") trigger_file ∷ append (codes "!hist:keys=n") trigger_file ∷ [])) ≡ Some true

-- `tick` and `tock` have a hist trigger each, which share the table `both`
abbrev pub with_shared_table : List Command → List Command
with_shared_table commands =
    declared (append (codes "tock u64 n") (codes "synthetic_events")
    ∷ append (codes "hist:keys=n:name=both") trigger_file
    ∷ append (codes "hist:keys=n:name=both") tock_trigger_file
    ∷ commands)

abbrev pub pause_tock : Command
pause_tock = append (codes "hist:keys=n:name=both:pause") tock_trigger_file

abbrev pub continue_tock : Command
continue_tock = append (codes "hist:keys=n:name=both:continue") tock_trigger_file

-- A table that two events share is paused for both of them, through the trigger file of either.
pub record SharedTablesPause : Type 0 where
  pub active : tick_is_idle (with_shared_table []) ≡ Some false
  pub paused : tick_is_idle (with_shared_table (pause_tock ∷ [])) ≡ Some true
  pub continued : tick_is_idle (with_shared_table (pause_tock ∷ continue_tock ∷ [])) ≡ Some false

-- A trigger for snapshots wants it as long as it has times left, traced or not, and until it is removed. An emission of which its filter doesn't hold
-- takes none.
pub record TimesLeftWant : Type 0 where
  pub one_left : tick_is_idle (declared (append (codes "snapshot:1") trigger_file ∷ [])) ≡ Some false
  pub none_left : tick_is_idle (declared (append (codes "snapshot:1") trigger_file ∷ tick 0 (codes "1") ∷ [])) ≡ Some true
  pub of_two : tick_is_idle (declared (append (codes "snapshot:2") trigger_file ∷ tick 0 (codes "1") ∷ [])) ≡ Some false
  pub unlimited : tick_is_idle (declared (append (codes "snapshot") trigger_file ∷ tick 0 (codes "1") ∷ [])) ≡ Some false
  pub not_met : tick_is_idle (declared (append (codes "snapshot:1 if n > 5") trigger_file ∷ tick 0 (codes "1") ∷ [])) ≡ Some false
  pub untraced : tick_is_idle (after_tick (tracing_on (codes "0") ∷ append (codes "snapshot:1") trigger_file ∷ [])) ≡ Some false
  pub removed : tick_is_idle (declared (append (codes "snapshot") trigger_file ∷ append (codes "!snapshot") trigger_file ∷ [])) ≡ Some true

-- An instance wants it while it is there, whatever the top one does; made again, it begins with nothing switched on.
abbrev pub wanted_in_instance : List Command → List Command
wanted_in_instance commands = declared (Mkdir (codes "instances/a") ∷ echo (codes "1") (in_instance (codes "events/enable")) ∷ commands)

pub record InstancesWant : Type 0 where
  pub there : tick_is_idle (wanted_in_instance []) ≡ Some false
  pub removed : tick_is_idle (wanted_in_instance (Rmdir (codes "instances/a") ∷ [])) ≡ Some true
  pub made_again : tick_is_idle (wanted_in_instance (Rmdir (codes "instances/a") ∷ Mkdir (codes "instances/a") ∷ [])) ≡ Some true
  pub top_untraced :
      tick_is_idle (after_tick (tracing_on (codes "0") ∷ Mkdir (codes "instances/a") ∷ echo (codes "1") (in_instance (codes "events/enable")) ∷ []))
      ≡ Some false
