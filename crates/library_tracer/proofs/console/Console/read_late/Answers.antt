use Rattle.std.proofs.Common.{Some, Result, Err, inl, inr, refl, sym, subst, ◌∙◌}
use Rattle.trace_command.specs.declared.command.Reply.{Reply}
use Rattle.trace_command.specs.declared.refusal.Refusal.{Refusal}
use Rattle.trace_command.specs.declared.refusal.Refusal.TheVariants.{Worn}
use Rattle.tracer.specs.LateReads.{replied}
use Rattle.library_tracer.specs.Inner.{seen}
use Rattle.library_tracer.proofs.ConsoleLemmas.{Answers, idle_answered, idle_busy, too_late}
use Rattle.library_tracer.proofs.ReadLemmas.{read_told, read_whole, whole_words}
use Rattle.library_tracer.proofs.console.Console.read_late.Goals as goal

pub returns-in-Err-Busy-clause-comes : goal.returns-in-Err-Busy-clause-comes
returns-in-Err-Busy-clause-comes c =
    rw (← c.self.view_is, c.settle-in-Err-Busy.ensures) (idle_busy c.self.inside c.in-Some.caller c.in-Err-Busy.caller (sym c.replace.ensures.value ∙ c.in-Some.is)
    c.self.invariant (rw c.in-Err-Busy.field-0-is at c.in-Err-Busy.ensures.failed))

pub returns-in-Err-Worn-clause-comes : goal.returns-in-Err-Worn-clause-comes
returns-in-Err-Worn-clause-comes c =
    let kept = c.keep_read-status-in-Err-Worn.ensures.kept in
    let last = c.keep_read-status-in-Err-Worn.new.last in
    let words = whole_words c.args.path.now in
    let is : Answers last words kept.0 = (kept.2, kept.3) in
    let worn : Answers last words (Err Worn) = subst (λ (r : Result Reply Refusal). Answers last words r) kept.1 is in
    inl (
      inr (
        rw (← c.self.view_is, c.settle-in-Err-Worn.ensures) (too_late c.self.inside c.in-Some.caller c.in-Err-Worn.caller last words
            (sym c.replace.ensures.value ∙ c.in-Some.is) c.self.invariant worn (rw c.in-Err-Worn.field-0-is at c.in-Err-Worn.ensures.failed)),
        refl,
      ),
      c.keep_read-status-in-Err-Worn.ensures.status,
    )

pub returns-in-Ok-clause-comes : goal.returns-in-Ok-clause-comes
returns-in-Ok-clause-comes c =
    let i = c.self.inside in
    let kept = c.keep_read-status.ensures.kept in
    let last = c.keep_read-status.new.last in
    let path = c.args.path.now in
    let answer = replied c.in-Ok.answer in
    rw (← c.self.view_is, c.settle.ensures) (read_told path (seen i) (seen (record i { idle = Some c.in-Ok.caller; last = last })) last answer kept.0 c.in-Ok.owes
    c.keep_read-status.result c.requires.late
    (λ other is.
    idle_answered i c.in-Some.caller c.in-Ok.caller other (read_whole path) (whole_words path) answer c.in-Ok.owes (sym c.replace.ensures.value ∙ c.in-Some.is)
    c.self.invariant is (rw c.deref.ensures at c.in-Ok.ensures.called))
    kept.1 (kept.2, kept.3) c.keep_read-status.ensures.status)
