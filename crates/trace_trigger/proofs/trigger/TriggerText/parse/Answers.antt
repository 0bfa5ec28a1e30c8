use Rattle.std.proofs.Common.{inr, sym}
use Rattle.trace_trigger.proofs.LaterFaults.{never_bad}
use Rattle.trace_trigger.proofs.SaidLemmas.{attached, removed, is_attached, is_removed, said_attached, said_removed, hist_ok, hist_told, hist_never_bad}
use Rattle.trace_trigger.proofs.trigger.TriggerText.parse.Goals as goal

pub returns-in-Ok-clause-exact : goal.returns-in-Ok-clause-exact
returns-in-Ok-clause-exact c =
    hist_ok c.args.event.now c.args.text.now attached (said_attached c.args.event.now c.args.text.now (sym c.if-is_blank_text.ensures) (sym c.if-begins.ensures)) c.in-Ok.attached c.in-Ok.ensures.exact

pub returns-in-Err-clause-exact : goal.returns-in-Err-clause-exact
returns-in-Err-clause-exact c =
    hist_told c.args.event.now c.args.text.now attached (said_attached c.args.event.now c.args.text.now (sym c.if-is_blank_text.ensures) (sym c.if-begins.ensures)) c.in-Err.fault c.in-Err.ensures.exact

pub returns-in-Ok-clause-early : goal.returns-in-Ok-clause-early
returns-in-Ok-clause-early c = λ cause bad.
    absurd (hist_never_bad c.args.event.now c.args.text.now attached (said_attached c.args.event.now c.args.text.now (sym c.if-is_blank_text.ensures) (sym c.if-begins.ensures)) cause (never_bad c.args.event.now c.args.text.now cause) bad)

pub returns-in-Err-clause-early : goal.returns-in-Err-clause-early
returns-in-Err-clause-early c = λ cause bad.
    absurd (hist_never_bad c.args.event.now c.args.text.now attached (said_attached c.args.event.now c.args.text.now (sym c.if-is_blank_text.ensures) (sym c.if-begins.ensures)) cause (never_bad c.args.event.now c.args.text.now cause) bad)

pub returns-in-Err-clause-memory : goal.returns-in-Err-clause-memory
returns-in-Err-clause-memory c = λ memory. inr (is_attached c.args.event.now c.args.text.now (sym c.if-begins.ensures))

pub returns-in-Ok-parse-clause-exact : goal.returns-in-Ok-parse-clause-exact
returns-in-Ok-parse-clause-exact c =
    hist_ok c.args.event.now c.args.text.now removed (said_removed c.args.event.now c.args.text.now (sym c.if-is_blank_text.ensures) (sym c.if-begins.ensures) (sym c.if-begins-2.ensures)) c.in-Ok-parse.removed c.in-Ok-parse.ensures.exact

pub returns-in-Err-parse-clause-exact : goal.returns-in-Err-parse-clause-exact
returns-in-Err-parse-clause-exact c =
    hist_told c.args.event.now c.args.text.now removed (said_removed c.args.event.now c.args.text.now (sym c.if-is_blank_text.ensures) (sym c.if-begins.ensures) (sym c.if-begins-2.ensures)) c.in-Err-parse.fault c.in-Err-parse.ensures.exact

pub returns-in-Ok-parse-clause-early : goal.returns-in-Ok-parse-clause-early
returns-in-Ok-parse-clause-early c = λ cause bad.
    absurd (hist_never_bad c.args.event.now c.args.text.now removed (said_removed c.args.event.now c.args.text.now (sym c.if-is_blank_text.ensures) (sym c.if-begins.ensures) (sym c.if-begins-2.ensures)) cause (never_bad c.args.event.now c.args.text.now cause) bad)

pub returns-in-Err-parse-clause-early : goal.returns-in-Err-parse-clause-early
returns-in-Err-parse-clause-early c = λ cause bad.
    absurd (hist_never_bad c.args.event.now c.args.text.now removed (said_removed c.args.event.now c.args.text.now (sym c.if-is_blank_text.ensures) (sym c.if-begins.ensures) (sym c.if-begins-2.ensures)) cause (never_bad c.args.event.now c.args.text.now cause) bad)

pub returns-in-Err-parse-clause-memory : goal.returns-in-Err-parse-clause-memory
returns-in-Err-parse-clause-memory c = λ memory. inr (is_removed c.args.event.now c.args.text.now (sym c.if-begins.ensures) (sym c.if-begins-2.ensures))
