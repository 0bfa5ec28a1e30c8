use Rattle.std.proofs.Common.{◌≡◌, ◌+◌, ◌*◌, ◌≤◌, ◌++◌, drop}
use Rattle.record_text.specs.FormatText.{field_lines}
use Rattle.record_text.proofs.format.push_field_lines.Given as goal

-- what was written and what is left to write are all; no field takes over 256 bytes
abbrev pub invariant-loop-field : goal.invariant-loop-field
invariant-loop-field l = record {
  lines : l.out.items ++ field_lines l.offset (drop l.field-index l.fields) ≡ l.initial.out.items ++ field_lines 16 l.fields;
  small : l.offset ≤ 16 + 256 * l.field-index;
}
