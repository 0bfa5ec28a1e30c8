-- The pairs of an emission, wherever they lie.
use Rattle.std.specs.Prelude.{List, [], ◌∷◌}
use Rattle.trace_format.specs.declared.pair.Pair.{Pair}
use Rattle.trace_command.specs.declared.pairs.PairList.{PairList}
use Rattle.trace_command.specs.declared.pairs.PairList.TheVariants.{One, Many}
use Rattle.trace_command.specs.declared.pairs.LentList.{LentList}
use Rattle.trace_command.specs.declared.pairs.LentList.TheVariants as lent

abbrev pub pairs_in : PairList → List Pair
pairs_in (One pair) = pair ∷ []
pairs_in (Many pairs) = pairs.items

-- there is one, which takes no block of its own
abbrev pub IsOne : PairList → Type 0
IsOne (One pair) = Unit {0}
IsOne (Many pairs) = ⊥

-- those that are lent
abbrev pub lent_in : LentList → List Pair
lent_in (lent.One pair) = pair ∷ []
lent_in (lent.Many pairs) = pairs.items
