use Rattle.std.proofs.Common.{inl, inr, refl, sym, ◌∙◌}
use Rattle.mount_replies.specs.Calls.{answer_of}
use Rattle.shared_mount.specs.AskedRequests.{request_after}
use Rattle.library_tracer.specs.AskedWords.{words_asked}
use Rattle.library_tracer.proofs.ConsoleLemmas.{idle_answered, idle_busy, saw, too_late}
use Rattle.library_tracer.proofs.console.Console.ask.Goals as goal

pub returns-in-Busy-clause-comes : goal.returns-in-Busy-clause-comes
returns-in-Busy-clause-comes g c =
    rw (← c.self.view_is, c.settle.ensures) (idle_busy c.self.inside c.in-Some.caller c.try_call-caller.result.0 (sym c.replace.ensures.value ∙ c.in-Some.is)
    c.self.invariant (rw (c.in-Err.is, c.in-Busy.is) at c.try_call-caller.ensures.missed))

pub returns-in-Worn-clause-comes : goal.returns-in-Worn-clause-comes
returns-in-Worn-clause-comes g c = (
  inr (
    rw (← c.self.view_is, c.settle.ensures) (too_late c.self.inside c.in-Some.caller c.try_call-caller.result.0 c.keep_worn-status.new.last
        (words_asked c.args.asked) (sym c.replace.ensures.value ∙ c.in-Some.is) c.self.invariant
        (c.keep_worn-status.ensures.kept, c.keep_worn-status.ensures.words) (rw (c.in-Err.is, c.in-Worn.is) at c.try_call-caller.ensures.missed)),
    refl,
  ),
  c.keep_worn-status.ensures.status,
)

pub returns-in-Ok-clause-comes : goal.returns-in-Ok-clause-comes
returns-in-Ok-clause-comes g c =
    let answer = answer_of c.in-Ok.called.is_done c.try_call-caller.new.answer in (
      inl (
        answer,
        rw (← c.self.view_is, c.settle.ensures) (idle_answered c.self.inside c.in-Some.caller c.try_call-caller.result.0 c.keep-status.new.last
            (λ entries. request_after entries c.args.asked) (words_asked c.args.asked) answer c.in-Ok.called.owes
            (sym c.replace.ensures.value ∙ c.in-Some.is) c.self.invariant (c.keep-status.ensures.kept, c.keep-status.ensures.words)
            (rw (c.in-Ok.is, c.deref.ensures) at c.try_call-caller.ensures.called)),
      ),
      c.keep-status.ensures.status,
    )

pub returns-in-Ok-clause-looked : goal.returns-in-Ok-clause-looked
returns-in-Ok-clause-looked g c =
    rw (← c.self.view_is, c.settle.ensures) (saw c.self.inside c.try_call-caller.result.0 c.self.inside.queued c.keep-status.new.last (g.L.Look.tells c.args.look.now)
    c.in-Ok.called.told c.keep-status.result c.in-Ok.called.owes (rw (c.in-Ok.is, c.deref.ensures) at c.try_call-caller.ensures.looked))

pub returns-in-Worn-clause-unlooked : goal.returns-in-Worn-clause-unlooked
returns-in-Worn-clause-unlooked g c = inr c.keep_worn-status.ensures.kept
