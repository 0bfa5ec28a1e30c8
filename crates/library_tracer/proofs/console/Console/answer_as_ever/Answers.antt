use Rattle.std.proofs.Common.{true, sym, ◌∙◌}
use Rattle.library_tracer.proofs.TryLemmas.{idle_serves}
use Rattle.library_tracer.proofs.console.Console.answer_as_ever.Goals as goal

pub returns-in-Some-clause-serves : goal.returns-in-Some-clause-serves
returns-in-Some-clause-serves c =
    let says = c.try_answer-tried.ensures in
    rw (← c.self.view_is, c.settle_tried.ensures.told, c.settle_tried.ensures.idle) (idle_serves c.self.inside c.in-Some.caller c.args.request.now
    c.try_answer-tried.new.reply.items true c.try_answer-tried.result (sym c.replace.ensures.value ∙ c.in-Some.is) c.self.invariant
    (rw c.deref.ensures at says.serves) says.failed)
