use Rattle.std.proofs.Common.{◌≡◌, ◌++◌, List, drop}
use Rattle.trace_command.specs.Requests.{Request}
use Rattle.tracer_specification.specs.Settings.{instance_names}
use Rattle.tracer.specs.Lives.{IsLive}
use Rattle.library_tracer.proofs.files.add_instances.Given as goal

-- the names so far, and those of the instances that are left, are all
abbrev pub invariant-loop-index : goal.invariant-loop-index
invariant-loop-index l =
    ((past : List Request) → IsLive l.live.config past l.live
    → l.names.instances ++ drop l.index (instance_names past) ≡ l.initial.names.instances ++ instance_names past)
    × (l.names.events ≡ l.initial.names.events) × (l.names.gone ≡ l.initial.names.gone)
