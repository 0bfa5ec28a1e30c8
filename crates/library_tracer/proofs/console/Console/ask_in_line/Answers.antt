use Rattle.std.proofs.Common.{inl, sym, ap, ◌∙◌}
use Rattle.mount_replies.specs.Calls.{answer_of}
use Rattle.shared_mount.specs.AskedRequests.{request_after}
use Rattle.shared_mount.specs.MountCallers.{line_view}
use Rattle.library_tracer.specs.AskedWords.{words_asked}
use Rattle.library_tracer.proofs.ConsoleLemmas.{line_answered, line_busy, saw}
use Rattle.library_tracer.proofs.console.Console.ask_in_line.Goals as goal

pub returns-in-Err-clause-comes : goal.returns-in-Err-clause-comes
returns-in-Err-clause-comes g c =
    rw (← c.self.view_is, c.line_up.ensures) (line_busy c.self.inside c.in-Some.queued (record { line = c.in-Err.line }) (sym c.replace.ensures.value ∙ c.in-Some.is)
    c.self.invariant (c.in-Err.ensures.busy ∙ ap line_view c.into_line.ensures))

pub returns-in-Ok-clause-comes : goal.returns-in-Ok-clause-comes
returns-in-Ok-clause-comes g c =
    let answer = answer_of c.in-Ok.called.is_done c.call_in_line.new.answer in (
      inl (
        answer,
        rw (← c.self.view_is, c.settle.ensures) (line_answered c.self.inside c.in-Some.queued c.in-Ok.caller c.replace.new.dest c.keep-status.new.last
            (λ entries. request_after entries c.args.asked) (words_asked c.args.asked) answer c.in-Ok.called.owes
            (sym c.replace.ensures.value ∙ c.in-Some.is) c.self.invariant c.replace.ensures.after (c.keep-status.ensures.kept, c.keep-status.ensures.words)
            (rw (c.into_line.ensures, c.deref.ensures) at c.in-Ok.ensures.called)),
      ),
      c.keep-status.ensures.status,
    )

pub returns-in-Ok-clause-looked : goal.returns-in-Ok-clause-looked
returns-in-Ok-clause-looked g c =
    rw (← c.self.view_is, c.settle.ensures) (saw c.self.inside c.in-Ok.caller c.replace.new.dest c.keep-status.new.last (g.L.Look.tells c.args.look.now)
    c.in-Ok.called.told c.keep-status.result c.in-Ok.called.owes (rw c.deref.ensures at c.in-Ok.ensures.looked))
