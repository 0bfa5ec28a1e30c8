use Rattle.std.proofs.Common.{◌≡◌, ◌+◌, ◌*◌, ◌≤◌, ◌++◌, drop}
use Rattle.kernel_pages.specs.KernelFormats.{field_lines}
use Rattle.kernel_pages.proofs.format.push_field_lines.Given as goal

-- what was written and what is left to write are all; no field takes over 262 bytes with those that align it
abbrev pub invariant-loop-field : goal.invariant-loop-field
invariant-loop-field l = record {
  lines : l.out.items ++ field_lines l.at (drop l.field-index l.fields) ≡ l.initial.out.items ++ field_lines 8 l.fields;
  small : l.at ≤ 8 + 262 * l.field-index;
}
