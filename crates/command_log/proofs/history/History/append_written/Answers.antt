use Rattle.std.proofs.Common.{◌+◌, ◌<◌, ◌^◌, length, subst, sym, refl, arith}
use Rattle.command_log.specs.HistorySeen.{HistorySeen}
use Rattle.command_log.proofs.HistoryFacts.{few_in_last, few_in_all, appended_history}
use Rattle.command_log.proofs.history.History.append_written.Goals as goal

abbrev Few : HistorySeen → Type 0
Few h = length h.entries + length h.ahead < 2 ^ 64

pub keep-requires-clause-few : goal.keep-requires-clause-few
keep-requires-clause-few c = few_in_last c.self.inside (2 ^ 64) (subst Few (sym c.self.view_is) c.requires)

pub overflow_add-self : goal.overflow_add-self
overflow_add-self c = omega (arith, few_in_all c.self.inside (2 ^ 64) c.self.invariant (subst Few (sym c.self.view_is) c.requires))

pub invariant_of-self : goal.invariant_of-self
invariant_of-self c =
    appended_history c.self.inside c.keep.new.self (c.self.inside.count + c.self.inside.ahead) c.self.invariant c.keep.ensures refl
