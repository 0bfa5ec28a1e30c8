use Rattle.std.proofs.Common.{◌≡◌, ◌++◌, length}
use Rattle.std.specs.Option.{option_map}
use Rattle.trace_script.specs.Lines.{pairs_of}
use Rattle.trace_script.proofs.command.take_pairs.Given as goal

abbrev pub invariant-loop-token : goal.invariant-loop-token
invariant-loop-token l = option_map (λ more. l.pairs.items ++ more) (pairs_of l.tokens) ≡ pairs_of l.fn.tokens

abbrev pub decreases-loop-token : goal.decreases-loop-token
decreases-loop-token l = length l.tokens
