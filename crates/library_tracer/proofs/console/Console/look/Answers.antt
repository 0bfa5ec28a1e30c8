use Rattle.std.proofs.Common.{sym, ◌∙◌}
use Rattle.library_tracer.proofs.TryLemmas.{idle_sees}
use Rattle.library_tracer.proofs.console.Console.look.Goals as goal

pub returns-in-Some-clause-comes : goal.returns-in-Some-clause-comes
returns-in-Some-clause-comes g c =
    let says = c.try_look-tried.ensures in
    rw (← c.self.view_is, c.settle_tried.ensures.told, c.settle_tried.ensures.idle) (idle_sees c.self.inside c.in-Some.caller (g.L.Look.tells c.args.look.now)
    c.try_look-tried.result (sym c.replace.ensures.value ∙ c.in-Some.is) c.self.invariant (rw c.deref.ensures at says.looked) says.failed)
