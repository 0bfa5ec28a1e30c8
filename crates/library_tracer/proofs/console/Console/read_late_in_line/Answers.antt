use Rattle.std.proofs.Common.{Some, sym, ap, ◌∙◌}
use Rattle.shared_mount.specs.MountCallers.{line_view}
use Rattle.tracer.specs.LateReads.{replied}
use Rattle.library_tracer.specs.Inner.{seen}
use Rattle.library_tracer.proofs.ConsoleLemmas.{line_answered, line_busy}
use Rattle.library_tracer.proofs.ReadLemmas.{read_told, read_whole, whole_words}
use Rattle.library_tracer.proofs.console.Console.read_late_in_line.Goals as goal

pub returns-in-Err-clause-comes : goal.returns-in-Err-clause-comes
returns-in-Err-clause-comes c =
    rw (← c.self.view_is, c.line_up.ensures) (line_busy c.self.inside c.in-Some.queued (record { line = c.in-Err.line }) (sym c.replace.ensures.value ∙ c.in-Some.is)
    c.self.invariant (c.in-Err.ensures.busy ∙ ap line_view c.into_line.ensures))

pub returns-in-Ok-clause-comes : goal.returns-in-Ok-clause-comes
returns-in-Ok-clause-comes c =
    let i = c.self.inside in
    let kept = c.keep_read-status.ensures.kept in
    let last = c.keep_read-status.new.last in
    let rest = c.replace.new.dest in
    let path = c.args.path.now in
    let answer = replied c.in-Ok.answer in
    rw (← c.self.view_is, c.settle.ensures) (read_told path (seen i) (seen (record i { idle = Some c.in-Ok.caller; queued = rest; last = last })) last answer kept.0
    c.in-Ok.owes c.keep_read-status.result c.requires.late
    (λ other is.
    line_answered i c.in-Some.queued c.in-Ok.caller rest other (read_whole path) (whole_words path) answer c.in-Ok.owes (sym c.replace.ensures.value ∙ c.in-Some.is)
    c.self.invariant c.replace.ensures.after is (rw (c.into_line.ensures, c.deref.ensures) at c.in-Ok.ensures.called))
    kept.1 (kept.2, kept.3) c.keep_read-status.ensures.status)
