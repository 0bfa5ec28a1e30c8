use Rattle.library_tracer.specs.ShownReplies.{Answers}
use Rattle.tracectl_c.proofs.ServedTries.{answer-tried}
use Rattle.tracectl_c.proofs.serving.tracectl_try_answer.Goals as goal

pub returns-clause-serves : goal.returns-clause-serves
returns-clause-serves c = λ some.
    let once : Answers c.args.request.now c.answer-tried.new.reply.items c.in-Some.console.value c.answer-tried.new.self c.answer-tried.result =
    rw c.deref_mut.ensures.value at c.answer-tried.ensures.serves in
    answer-tried c.args.request.now c.answer-tried.new.reply.items _ _ c.in-Some.console.value c.answer-tried.new.self c.answer-tried.result _ _ _ _ _
    c.in-Some.ensures.taken c.keep-2.ensures once (rw c.deref.ensures.value at c.tell_served.ensures)
