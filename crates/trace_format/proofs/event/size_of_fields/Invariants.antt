use Rattle.std.proofs.Common.{◌≡◌, ◌+◌, ◌*◌, ◌≤◌, drop, map}
use Rattle.trace_format.specs.Cells.{size_of_all}
use Rattle.trace_format.proofs.event.size_of_fields.Given as goal

abbrev pub invariant-loop-field : goal.invariant-loop-field
invariant-loop-field l = (l.size + size_of_all (map (λ f. f.kind) (drop l.field-index l.fields)) ≡ size_of_all (map (λ f. f.kind) l.fields)) × (l.size ≤ 255 * l.field-index)
