use Rattle.std.proofs.Common.{◌≡◌, drop}
use Rattle.std.specs.Prelude.{bytes_eq}
use Rattle.std.specs.List.{position, position_from}
use Rattle.trace_format.specs.declared.key.Key.{Key}
use Rattle.trace_trigger.proofs.meaning.index_of_key.Given as goal

abbrev pub invariant-loop-index : goal.invariant-loop-index
invariant-loop-index l = position (λ (key : Key). bytes_eq l.name key.name) l.keys ≡ position_from (λ (key : Key). bytes_eq l.name key.name) l.index (drop l.index l.keys)
