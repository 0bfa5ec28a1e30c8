use Rattle.std.proofs.Common.{sym, ◌∙◌}
use Rattle.library_tracer.proofs.TryLemmas.{line_copies}
use Rattle.library_tracer.proofs.console.Console.copy_wanted_in_line.Goals as goal

pub returns-clause-comes : goal.returns-clause-comes
returns-clause-comes c =
    let says = c.copy_wanted_in_line-tried.ensures in
    let left = c.settle_in_line.ensures in
    rw (← c.self.view_is, left.told, left.idle, left.queued) (line_copies c.self.inside c.in_ok-queued.queued c.replace.new.dest
    c.copy_wanted_in_line-tried.result (sym c.replace.ensures.value ∙ c.in_ok-queued.was) c.self.invariant c.replace.ensures.after
    (rw (c.into_line.ensures, c.deref.ensures) at says.idle) (rw c.deref.ensures at says.copied) (rw c.into_line.ensures at says.busy))
