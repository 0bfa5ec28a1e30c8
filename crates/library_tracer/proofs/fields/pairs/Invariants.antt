use Rattle.std.proofs.Common.{◌≡◌, ◌++◌, length}
use Rattle.std.specs.Option.{option_map}
use Rattle.library_tracer.specs.Fields.{fields_in, pairs_in}
use Rattle.library_tracer.proofs.fields.pairs.Given as goal

abbrev pub invariant-loop-rest : goal.invariant-loop-rest
invariant-loop-rest l =
    option_map (λ more. l.pairs.items ++ more) (pairs_in (fields_in l.rest)) ≡ pairs_in (fields_in l.text)

abbrev pub decreases-loop-rest : goal.decreases-loop-rest
decreases-loop-rest l = length l.rest
