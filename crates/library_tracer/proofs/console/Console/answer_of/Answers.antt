use Rattle.library_tracer.proofs.ShownLemmas.{as_ever}
use Rattle.library_tracer.proofs.console.Console.answer_of.Goals as goal

pub returns-in-None-clause-serves : goal.returns-in-None-clause-serves
returns-in-None-clause-serves c =
    as_ever c.args.request.now c.answer_as_ever.new.reply.items c.args.self.now c.answer_as_ever.new.self c.answer_as_ever.result c.answer_as_ever.ensures.serves
