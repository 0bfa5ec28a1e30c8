use Rattle.std.proofs.Common.{◌≡◌, drop}
use Rattle.trace_format.specs.Rows.{first_missing}
use Rattle.trace_format.proofs.given.missing_field.Given as goal

-- the first missing field of those that are left is that of all
abbrev pub invariant-loop-field : goal.invariant-loop-field
invariant-loop-field l = first_missing (drop l.field-index l.fields) l.pairs ≡ first_missing l.fields l.pairs
