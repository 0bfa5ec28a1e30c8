-- One turn of a loop that writes a text for each element of a list: what was written and what is left to write are all, as before.
use Rattle.std.proofs.Common.{◌≡◌, ℕ, ◌+◌, List, ◌∷◌, ◌++◌, codes, sym, ap, ◌∙◌, append_assoc}
use Rattle.std.specs.List.{flat_map}
use Rattle.trace_format.specs.declared.event.Field.{Field}
use Rattle.trace_format.specs.Cells.{Datum}
use Rattle.trace_format.specs.Kinds.{size_of}
use Rattle.record_text.specs.DeclarationText.{further_fields}
use Rattle.record_text.specs.FieldText.{field_text}
use Rattle.record_text.specs.FormatText.{field_line, field_lines}
use Rattle.record_text.specs.RecordText.{cell_text, cells_text}

-- the elements that are left begin with this one
pub one_more : {X : Type 0} (f : X → List ℕ) (x : X) (left rest : List X) (old new all : List ℕ) → left ≡ x ∷ rest → new ≡ old ++ f x
    → old ++ flat_map f left ≡ all → new ++ flat_map f rest ≡ all
one_more f x left rest old new all first written so_far =
    ap (λ text. text ++ flat_map f rest) written
    ∙ append_assoc old (f x) (flat_map f rest)
    ∙ ap (λ xs. old ++ flat_map f xs) (sym first)
    ∙ so_far

-- the cells of a row
pub cell_more : (field : Field) (value : Datum) (fields fields' : List Field) (values values' : List Datum) (old new all : List ℕ) → fields ≡ field ∷ fields' → values ≡ value ∷ values'
    → new ≡ old ++ cell_text field value → old ++ cells_text fields values ≡ all → new ++ cells_text fields' values' ≡ all
cell_more field value fields fields' values values' old new all first second written so_far =
    let rest = cells_text fields' values' in
    let here : old ++ cells_text fields values ≡ old ++ (cell_text field value ++ rest) = (λ i. old ++ cells_text (first i) (second i)) in
    ap (λ text. text ++ rest) written ∙ append_assoc old (cell_text field value) rest ∙ sym here ∙ so_far

-- the fields of a declaration
pub field_more : (field : Field) (left rest : List Field) (old next new all : List ℕ) → left ≡ field ∷ rest → next ≡ old ++ codes "; " → new ≡ next ++ field_text field
    → old ++ further_fields left ≡ all → new ++ further_fields rest ≡ all
field_more field left rest old next new all first began written so_far =
    ap (λ text. text ++ further_fields rest) (written ∙ ap (λ text. text ++ field_text field) began)
    ∙ regrouped old (codes "; ") (field_text field) (further_fields rest)
    ∙ ap (λ fields. old ++ further_fields fields) (sym first)
    ∙ so_far
  where
    regrouped : (a b c d : List ℕ) → a ++ b ++ c ++ d ≡ a ++ (b ++ c ++ d)
    regrouped a b c d = simp append_assoc

-- and the lines of a format
pub line_more : (offset size : ℕ) (field : Field) (left rest : List Field) (old new all : List ℕ) → left ≡ field ∷ rest → size ≡ size_of field.kind → new ≡ old ++ field_line offset field
    → old ++ field_lines offset left ≡ all → new ++ field_lines (offset + size) rest ≡ all
line_more offset size field left rest old new all first size_is written so_far =
    let later = field_lines (offset + size_of field.kind) rest in
    ap (λ n. new ++ field_lines (offset + n) rest) size_is
    ∙ ap (λ text. text ++ later) written
    ∙ append_assoc old (field_line offset field) later
    ∙ ap (λ fields. old ++ field_lines offset fields) (sym first)
    ∙ so_far
