use Rattle.std.proofs.Common.{refl, sym, subst, ◌∙◌}
use Rattle.library_tracer.specs.ConsolesSeen.{ConsoleSeen}
use Rattle.library_tracer.specs.Inner.{seen}
use Rattle.library_tracer.specs.ShownReplies.{IsShownTo}
use Rattle.library_tracer.proofs.ConsoleLemmas.{idle_busy, idle_worn}
use Rattle.library_tracer.proofs.ShownLemmas.{idle_shown, idle_shows}
use Rattle.library_tracer.proofs.console.Console.answer_shown.Goals as goal

pub try_answer_shown-requires-clause-shown : goal.try_answer_shown-requires-clause-shown
try_answer_shown-requires-clause-shown c =
    let known : IsShownTo (seen c.self.inside) c.args.shown = subst (λ (b : ConsoleSeen). IsShownTo b c.args.shown) (sym c.self.view_is) c.requires.shown in
    rw c.deref.ensures (idle_shows c.self.inside c.in-Some.caller c.args.shown (sym c.replace.ensures.value ∙ c.in-Some.is) c.self.invariant known)

pub returns-in-Ok-clause-serves : goal.returns-in-Ok-clause-serves
returns-in-Ok-clause-serves c =
    let known : IsShownTo (seen c.self.inside) c.args.shown = subst (λ (b : ConsoleSeen). IsShownTo b c.args.shown) (sym c.self.view_is) c.requires.shown in
    rw (← c.self.view_is, c.settle.ensures) (idle_shown c.self.inside c.in-Some.caller c.in-Ok.caller c.args.shown c.args.request.now
    c.try_answer_shown.new.reply.items c.in-Ok.served (sym c.replace.ensures.value ∙ c.in-Some.is) c.self.invariant known
    (rw c.deref.ensures at c.in-Ok.ensures.serves))

pub returns-in-Busy-clause-serves : goal.returns-in-Busy-clause-serves
returns-in-Busy-clause-serves c =
    let failed = (rw c.in-Busy.is at c.in-Err.ensures.failed) in (
      rw (← c.self.view_is, c.settle-in-Busy.ensures) (idle_busy c.self.inside c.in-Some.caller c.in-Busy.caller (sym c.replace.ensures.value ∙ c.in-Some.is)
          c.self.invariant failed.0),
      failed.1,
    )

pub returns-in-Worn-clause-serves : goal.returns-in-Worn-clause-serves
returns-in-Worn-clause-serves c =
    let failed = (rw c.in-Worn.is at c.in-Err.ensures.failed) in (
      refl,
      rw (← c.self.view_is, c.settle-in-Worn.ensures) (idle_worn c.self.inside c.in-Some.caller c.in-Worn.caller (sym c.replace.ensures.value ∙ c.in-Some.is)
          c.self.invariant failed.0),
      failed.1,
    )
