use Rattle.std.proofs.Common.{IfSome, sym, subst}
use Rattle.library_tracer.specs.Consoles.{HasSeen}
use Rattle.library_tracer.specs.ConsolesSeen.{ConsoleSeen}
use Rattle.library_tracer.specs.ShownReplies.{AnswersOnce, IsShownTo}
use Rattle.library_tracer.proofs.ShownLemmas.{after_copy, copies, made_to}
use Rattle.library_tracer.proofs.console.Console.answer_anew.Goals as goal

pub answer_of-requires-clause-shown : goal.answer_of-requires-clause-shown
answer_of-requires-clause-shown c =
    let before = c.args.self.now in
    let between = c.copy_wanted.new.self in
    let seen : HasSeen (copies before.terms c.in-Ok.copied) before between = rw c.in-Ok.is at c.in_ok-copied.ensures.comes in
    subst (λ (b : ConsoleSeen). IfSome c.made-shown.result (IsShownTo b)) (sym c.self.view_is)
    (made_to before between c.in-Ok.copied c.made-shown.result seen c.made-shown.ensures)

pub returns-in-Ok-clause-serves : goal.returns-in-Ok-clause-serves
returns-in-Ok-clause-serves c =
    let before = c.args.self.now in
    let between = c.copy_wanted.new.self in
    let bytes = c.answer_of.new.reply.items in
    let seen : HasSeen (copies before.terms c.in-Ok.copied) before between = rw c.in-Ok.is at c.in_ok-copied.ensures.comes in
    after_copy c.args.request.now bytes before between c.answer_of.new.self c.in-Ok.copied c.answer_of.result seen
    (subst (λ (b : ConsoleSeen). AnswersOnce c.args.request.now bytes b c.answer_of.new.self c.answer_of.result) c.self.view_is c.answer_of.ensures.serves)
