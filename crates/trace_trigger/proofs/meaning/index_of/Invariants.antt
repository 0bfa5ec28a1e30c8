use Rattle.std.proofs.Common.{◌≡◌, drop}
use Rattle.std.specs.Prelude.{bytes_eq}
use Rattle.std.specs.List.{position, position_from}
use Rattle.trace_trigger.proofs.meaning.index_of.Given as goal

abbrev pub invariant-loop-index : goal.invariant-loop-index
invariant-loop-index l = position (bytes_eq l.name) l.names ≡ position_from (bytes_eq l.name) l.index (drop l.index l.names)
