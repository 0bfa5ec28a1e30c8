use Rattle.std.proofs.Common.{arith}
use Rattle.trace_script.proofs.FirstLines.{short_read}
use Rattle.trace_script.proofs.first.cut_first.Goals as goal

pub returns-in-Some-2-clause-read : goal.returns-in-Some-2-clause-read
returns-in-Some-2-clause-read c =
    let line = c.in-Some-marked_line.ensures in
    short_read _ _ _ c.in-Some.ensures.some line.text line.bare (omega (arith, line.marked.low.few)) _ (rw c.in-Some-2.is at c.in_ok-head.ensures)
