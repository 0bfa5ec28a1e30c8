use Rattle.std.proofs.Common.{sym, ◌∙◌}
use Rattle.library_tracer.proofs.TryLemmas.{idle_copies}
use Rattle.library_tracer.proofs.console.Console.copy_wanted.Goals as goal

pub returns-in-Some-clause-comes : goal.returns-in-Some-clause-comes
returns-in-Some-clause-comes c =
    let says = c.try_copy_wanted-tried.ensures in
    rw (← c.self.view_is, c.settle_tried.ensures.told, c.settle_tried.ensures.idle) (idle_copies c.self.inside c.in-Some.caller c.try_copy_wanted-tried.result
    (sym c.replace.ensures.value ∙ c.in-Some.is) c.self.invariant (rw c.deref.ensures at says.idle) (rw c.deref.ensures at says.copied) says.failed)
