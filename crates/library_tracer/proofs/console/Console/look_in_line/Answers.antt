use Rattle.std.proofs.Common.{sym, ◌∙◌}
use Rattle.library_tracer.proofs.TryLemmas.{line_answers, line_sees, line_waits}
use Rattle.library_tracer.proofs.console.Console.look_in_line.Goals as goal

pub returns-clause-comes : goal.returns-clause-comes
returns-clause-comes g c =
    let says = c.look_in_line-tried.ensures in
    let left = c.settle_in_line.ensures in
    rw (← c.self.view_is, left.told, left.idle, left.queued) (line_sees c.self.inside c.in_ok-queued.queued c.replace.new.dest
    (g.L.Look.tells c.args.look.now) c.look_in_line-tried.result (sym c.replace.ensures.value ∙ c.in_ok-queued.was) c.self.invariant c.replace.ensures.after
    (rw (c.into_line.ensures, c.deref.ensures) at says.looked) (rw c.into_line.ensures at says.busy))

pub returns-clause-in_line : goal.returns-clause-in_line
returns-clause-in_line g c = rw c.settle_in_line.ensures.told (line_answers c.look_in_line-tried.result)

pub returns-clause-waits : goal.returns-clause-waits
returns-clause-waits g c =
    let says = c.look_in_line-tried.ensures in
    let left = c.settle_in_line.ensures in
    rw (← c.self.view_is, left.told, left.idle, left.queued) (line_waits c.self.inside c.in_ok-queued.queued c.replace.new.dest
    c.look_in_line-tried.result (sym c.replace.ensures.value ∙ c.in_ok-queued.was) c.self.invariant (rw c.into_line.ensures at says.busy))
