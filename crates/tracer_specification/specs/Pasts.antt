-- Requests that were done, one after another. The newest comes first.
use Rattle.std.specs.Prelude.{List, [], ◌∷◌, IsOk, ⊤}
use Rattle.trace_command.specs.Requests.{Request}
use Rattle.trace_command.specs.declared.command.Config.{Config}
use Rattle.tracer_specification.specs.History.{answer_with_room}

-- each of these requests was done after those before it, were there no limit on their number
abbrev pub AreDone : Config → List Request → Type 0
AreDone g [] = ⊤
AreDone g (request ∷ past) = IsOk (answer_with_room g past request) × AreDone g past
