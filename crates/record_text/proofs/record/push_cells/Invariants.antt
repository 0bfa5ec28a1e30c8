use Rattle.std.proofs.Common.{◌≡◌, ◌++◌, ℕ, List, map, drop, option_map}
use Rattle.trace_format.specs.Decoding.{values_from}
use Rattle.record_text.specs.RecordText.{cells_text}
use Rattle.record_text.proofs.record.push_cells.Given as goal

-- the text so far and that of the values that are left are the text of all; nothing was taken away
abbrev pub invariant-loop-field : goal.invariant-loop-field
invariant-loop-field l = record {
  cells : option_map (λ values. l.out.items ++ cells_text (drop l.field-index l.fields) values) (values_from (map (λ f. f.kind) (drop l.field-index l.fields)) l.rest)
      ≡ option_map (λ values. l.initial.out.items ++ cells_text l.fields values) (values_from (map (λ f. f.kind) l.fields) l.payload);
  more : (more : List ℕ) × (l.out.items ≡ l.initial.out.items ++ more);
}
