use Rattle.std.proofs.Common.{◌≡◌, ◌++◌, drop}
use Rattle.mount_replies.specs.Injections.{left_out}
use Rattle.mount_replies.proofs.injected_line.left_out.Given as goal

-- with those of the fields that are left all are there
abbrev pub invariant-loop-field : goal.invariant-loop-field
invariant-loop-field l = l.left.items ++ left_out l.pairs (drop l.field-index l.fields) ≡ left_out l.pairs l.fields
