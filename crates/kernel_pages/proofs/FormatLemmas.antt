-- One turn of the loops that write the fields of an event: what was written and what is left to write are all, as before.
use Rattle.std.proofs.Common.{◌≡◌, ℕ, ◌+◌, ◌-◌, List, ◌∷◌, ◌++◌, drop, replicate, sym, ap, ◌∙◌, append_assoc}
use Rattle.trace_format.specs.declared.event.Field.{Field}
use Rattle.trace_format.specs.Kinds.{size_of}
use Rattle.kernel_pages.specs.KernelFormats.{start_of, filled, fields_data, field_line, field_lines}

regrouped : (a b c d : List ℕ) → ((a ++ b) ++ c) ++ d ≡ a ++ (b ++ (c ++ d))
regrouped a b c d = simp append_assoc

module _ (at start size : ℕ) (field : Field) (left rest : List Field) where
  pub line_more : (old new all : List ℕ) → left ≡ field ∷ rest → start ≡ start_of at field.kind → size ≡ size_of field.kind → new ≡ old ++ field_line start field
      → old ++ field_lines at left ≡ all → new ++ field_lines (start + size) rest ≡ all
  line_more old new all first starts sized written so_far =
      let lines : field_lines at left ≡ field_line start field ++ field_lines (start + size) rest =
      ap (field_lines at) first ∙ (λ i. field_line (sym starts i) field ++ field_lines (sym starts i + sym sized i) rest) in
      ap (λ text. text ++ field_lines (start + size) rest) written
      ∙ append_assoc old (field_line start field) (field_lines (start + size) rest)
      ∙ ap (λ text. old ++ text) (sym lines)
      ∙ so_far

  pub data_more : (payload after old one two all : List ℕ) → left ≡ field ∷ rest → start ≡ start_of at field.kind → size ≡ size_of field.kind
      → one ≡ old ++ replicate (start - at) 0 → two ≡ one ++ filled size payload → after ≡ drop size payload
      → old ++ fields_data at left payload ≡ all → two ++ fields_data (start + size) rest after ≡ all
  data_more payload after old one two all first starts sized padded written follows so_far =
      let later = fields_data (start + size) rest after in
      let dropped : drop (size_of field.kind) payload ≡ after = ap (λ n. drop n payload) (sym sized) ∙ sym follows in
      let bytes : fields_data at left payload ≡ replicate (start - at) 0 ++ (filled size payload ++ later) =
      ap (λ fields. fields_data at fields payload) first
      ∙ (λ i. replicate (sym starts i - at) 0 ++ (filled (sym sized i) payload ++ fields_data (sym starts i + sym sized i) rest (dropped i))) in
      ap (λ text. text ++ later) (written ∙ ap (λ text. text ++ filled size payload) padded)
      ∙ regrouped old (replicate (start - at) 0) (filled size payload) later
      ∙ ap (λ text. old ++ text) (sym bytes)
      ∙ so_far

-- four pieces, one after the other
pub four_pieces : (a b c d old one two three new : List ℕ) → one ≡ old ++ a → two ≡ one ++ b → three ≡ two ++ c → new ≡ three ++ d → new ≡ old ++ (a ++ b ++ c ++ d)
four_pieces a b c d old one two three new first second third fourth =
    let pieces : old ++ a ++ b ++ c ++ d ≡ old ++ (a ++ b ++ c ++ d) = simp append_assoc in
    fourth ∙ ap (λ text. text ++ d) (third ∙ ap (λ text. text ++ c) (second ∙ ap (λ text. text ++ b) first)) ∙ pieces
