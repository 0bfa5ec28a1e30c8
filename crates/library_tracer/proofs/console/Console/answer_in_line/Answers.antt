use Rattle.std.proofs.Common.{true, sym, ◌∙◌}
use Rattle.library_tracer.proofs.TryLemmas.{line_serves}
use Rattle.library_tracer.proofs.console.Console.answer_in_line.Goals as goal

pub returns-clause-serves : goal.returns-clause-serves
returns-clause-serves c =
    let says = c.answer_in_line-tried.ensures in
    let left = c.settle_in_line.ensures in
    rw (← c.self.view_is, left.told, left.idle, left.queued) (line_serves c.self.inside c.in_ok-queued.queued c.replace.new.dest
    c.args.request.now c.answer_in_line-tried.new.reply.items true c.answer_in_line-tried.result (sym c.replace.ensures.value ∙ c.in_ok-queued.was)
    c.self.invariant c.replace.ensures.after (rw (c.into_line.ensures, c.deref.ensures) at says.serves) (rw c.into_line.ensures at says.busy))
