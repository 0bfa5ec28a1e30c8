use Rattle.std.proofs.Common.{arith, sym}
use Rattle.trace_script.proofs.FirstLines.{first_len, first_read, not_bare, too_long, none_read}
use Rattle.trace_script.proofs.first.cut_any.Goals as goal

pub returns-in_default-clause-found : goal.returns-in_default-clause-found
returns-in_default-clause-found c = λ text is plain. absurd (not_bare text _ is c.in_default.ensures.none plain)

pub returns-then-len-clause-found : goal.returns-then-len-clause-found
returns-then-len-clause-found c =
    let line = c.in-Some.ensures in
    λ text is plain. absurd (too_long text _ is _ line.len line.within (omega arith) plain)

pub returns-in_default-2-clause-found : goal.returns-in_default-2-clause-found
returns-in_default-2-clause-found c =
    let line = c.in-Some.ensures in
    λ text is plain. absurd (none_read text _ is _ line.len line.within line.bare (omega arith) (rw (sym c.split_at.ensures.front) (rw c.in_default-2.is at c.in_ok-head.ensures.none)) plain)

pub returns-clause-read : goal.returns-clause-read
returns-clause-read c =
    let line = c.in-Some.ensures in
    λ text is. first_read text _ is _ line.len line.within line.bare (omega arith) _ (rw (sym c.split_at.ensures.front) (rw c.in-Some-2.is at c.in_ok-head.ensures.read))

pub returns-clause-len : goal.returns-clause-len
returns-clause-len c =
    let line = c.in-Some.ensures in
    λ text is. first_len text _ is _ line.len line.within
