-- `==` of pairs and of commands tells whether they are one.
use Rattle.std.proofs.Common.{rules, ◌≡◌, List}
use Rattle.std.specs.Bool.{Decides}
use Rattle.std.specs.Cmp.Lexicographic.{pointwise, pointwise_decides, bytes_decides}
use Rattle.trace_format.specs.declared.pair.Pair.{Pair}
use Rattle.trace_format.specs.contracts.pair.PairPartialEq.TheImpl.{eq-value as pair_eq}

pair_decided : (a b : Pair) → Decides (pair_eq.it a b) (a ≡ b)
pair_decided a b = search (rules, bytes_decides)

pub pairs_decided : (xs ys : List Pair) → Decides (pointwise pair_eq.it xs ys) (xs ≡ ys)
pairs_decided xs ys = pointwise_decides pair_decided xs ys
