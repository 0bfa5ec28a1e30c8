use Rattle.std.proofs.Common.{◌+◌, sym, subst, arith}
use Rattle.std.proofs.lemmas.Grind.{common_steps}
use Rattle.hist_entries.specs.Numbers.{AreWithin}
use Rattle.hist_entries.proofs.tally.Tally.count.Goals as goal

pub returns-clause-within : goal.returns-clause-within
returns-clause-within c = λ rows h.
    subst (AreWithin (rows + 1)) (grind (arith, common_steps)) (c.add_numbers.ensures.within rows (subst (AreWithin rows) (sym c.deref_mut.ensures.value) h))
