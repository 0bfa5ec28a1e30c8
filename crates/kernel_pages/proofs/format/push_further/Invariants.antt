use Rattle.std.proofs.Common.{◌≡◌, ◌++◌, drop}
use Rattle.std.specs.List.{flat_map}
use Rattle.kernel_pages.specs.KernelFormats.{further_field}
use Rattle.kernel_pages.proofs.format.push_further.Given as goal

-- what was written and what is left to write are all
abbrev pub invariant-loop-field : goal.invariant-loop-field
invariant-loop-field l = l.out.items ++ flat_map further_field (drop l.field-index l.fields) ≡ l.initial.out.items ++ flat_map further_field l.fields
