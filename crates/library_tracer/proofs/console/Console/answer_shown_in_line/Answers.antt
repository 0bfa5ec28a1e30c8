use Rattle.std.proofs.Common.{refl, sym, ap, subst, ◌∙◌}
use Rattle.shared_mount.specs.MountCallers.{line_view}
use Rattle.library_tracer.specs.ConsolesSeen.{ConsoleSeen}
use Rattle.library_tracer.specs.Inner.{seen}
use Rattle.library_tracer.specs.ShownReplies.{IsShownTo}
use Rattle.library_tracer.proofs.ConsoleLemmas.{line_busy}
use Rattle.library_tracer.proofs.ShownLemmas.{line_shown, line_shows}
use Rattle.library_tracer.proofs.console.Console.answer_shown_in_line.Goals as goal

pub answer_shown_in_line-requires-clause-shown : goal.answer_shown_in_line-requires-clause-shown
answer_shown_in_line-requires-clause-shown c =
    let known : IsShownTo (seen c.self.inside) c.args.shown = subst (λ (b : ConsoleSeen). IsShownTo b c.args.shown) (sym c.self.view_is) c.requires.shown in
    rw (c.into_line.ensures, c.deref.ensures) (line_shows c.self.inside c.in_ok-queued.queued c.args.shown (sym c.replace.ensures.value ∙ c.in_ok-queued.was)
    c.self.invariant known)

pub returns-in-Ok-clause-serves : goal.returns-in-Ok-clause-serves
returns-in-Ok-clause-serves c =
    let known : IsShownTo (seen c.self.inside) c.args.shown = subst (λ (b : ConsoleSeen). IsShownTo b c.args.shown) (sym c.self.view_is) c.requires.shown in
    rw (← c.self.view_is, c.replace.ensures.after, c.settle.ensures) (line_shown c.self.inside c.in_ok-queued.queued c.in-Ok.caller c.args.shown
    c.args.request.now c.answer_shown_in_line.new.reply.items c.in-Ok.served (sym c.replace.ensures.value ∙ c.in_ok-queued.was) c.self.invariant known
    (rw (c.into_line.ensures, c.deref.ensures) at c.in-Ok.ensures.serves))

pub returns-in-Ok-clause-has : goal.returns-in-Ok-clause-has
returns-in-Ok-clause-has c = rw c.settle.ensures refl

pub returns-in-Err-clause-serves : goal.returns-in-Err-clause-serves
returns-in-Err-clause-serves c =
    let says = c.in-Err.ensures.busy in (
      rw (← c.self.view_is, c.line_up.ensures) (line_busy c.self.inside c.in_ok-queued.queued (record { line = c.in-Err.line })
          (sym c.replace.ensures.value ∙ c.in_ok-queued.was) c.self.invariant (says.0 ∙ ap line_view c.into_line.ensures)),
      says.1,
    )
