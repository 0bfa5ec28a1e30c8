use Rattle.std.proofs.Common.{◌≡◌, length}
use Rattle.trace_filter.specs.Globs.{is_member}
use Rattle.trace_filter.proofs.glob.is_member.Given as goal

abbrev pub invariant-members : goal.invariant-members
invariant-members l = is_member l.rest l.byte ≡ is_member l.members l.byte

abbrev pub decreases-members : goal.decreases-members
decreases-members l = length l.rest
