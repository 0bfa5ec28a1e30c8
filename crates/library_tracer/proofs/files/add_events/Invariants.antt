use Rattle.std.proofs.Common.{◌≡◌, ◌++◌, List, drop}
use Rattle.trace_command.specs.Requests.{Request}
use Rattle.tracer.specs.Lives.{IsLive}
use Rattle.library_tracer.specs.ListedFiles.{event_names}
use Rattle.library_tracer.proofs.files.add_events.Given as goal

-- the names so far, and those of the events that are left, are all
abbrev pub invariant-loop-index : goal.invariant-loop-index
invariant-loop-index l =
    ((past : List Request) → IsLive l.live.config past l.live
    → l.names.events ++ drop l.index (event_names past) ≡ l.initial.names.events ++ event_names past)
    × (l.names.instances ≡ l.initial.names.instances) × (l.names.gone ≡ l.initial.names.gone)
