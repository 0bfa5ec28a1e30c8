use Rattle.std.proofs.Common.{false, sym, ◌∙◌, []}
use Rattle.library_tracer.proofs.TryLemmas.{idle_serves}
use Rattle.library_tracer.proofs.console.Console.tell.Goals as goal

pub returns-in-Some-clause-serves : goal.returns-in-Some-clause-serves
returns-in-Some-clause-serves c =
    let says = c.try_tell-tried.ensures in
    rw (← c.self.view_is, c.settle_tried.ensures.told, c.settle_tried.ensures.idle) (idle_serves c.self.inside c.in-Some.caller []
    c.try_tell-tried.new.reply.items false c.try_tell-tried.result (sym c.replace.ensures.value ∙ c.in-Some.is) c.self.invariant
    (rw c.deref.ensures at says.serves) says.failed)
