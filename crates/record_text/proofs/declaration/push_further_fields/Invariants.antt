use Rattle.std.proofs.Common.{◌≡◌, ◌++◌, drop}
use Rattle.record_text.specs.DeclarationText.{further_fields}
use Rattle.record_text.proofs.declaration.push_further_fields.Given as goal

-- what was written and what is left to write are all
abbrev pub invariant-loop-field : goal.invariant-loop-field
invariant-loop-field l = l.out.items ++ further_fields (drop l.field-index l.fields) ≡ l.initial.out.items ++ further_fields l.fields
