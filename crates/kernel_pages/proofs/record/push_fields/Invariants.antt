use Rattle.std.proofs.Common.{◌≡◌, ◌+◌, ◌*◌, ◌≤◌, ◌++◌, drop}
use Rattle.kernel_pages.specs.KernelFormats.{fields_data}
use Rattle.kernel_pages.proofs.record.push_fields.Given as goal

-- what was written and what is left to write are all; no field takes over 262 bytes with those that align it
abbrev pub invariant-loop-field : goal.invariant-loop-field
invariant-loop-field l = record {
  written : l.out.items ++ fields_data l.at (drop l.field-index l.fields) l.rest ≡ l.initial.out.items ++ fields_data 8 l.fields l.initial.rest;
  small : l.at ≤ 8 + 262 * l.field-index;
}
