-- The line of an event, appended piece by piece, is that of the row that its payload is.
use Rattle.std.proofs.Common.{◌≡◌, ℕ, Bool, true, List, [], ◌∷◌, ◌++◌, map, Option, None, Some, option_map, if◌then◌else◌, sym, ap, ◌∙◌, subst, append_assoc}
use Rattle.trace_record.specs.declared.head.Head.{Head}
use Rattle.trace_format.specs.declared.event.Field.{Field}
use Rattle.trace_format.specs.Definitions.{Definition}
use Rattle.trace_format.specs.Cells.{Datum, kinds_of}
use Rattle.trace_format.specs.Decoding.{row_from, values_from}
use Rattle.record_text.specs.RecordText.{line_start, cells_text, row_line, line_of_row}

IsFound : Option (List ℕ) → Type 0
IsFound None = ⊥
IsFound (Some text) = Unit {0}

text_in : Option (List ℕ) → List ℕ
text_in None = []
text_in (Some text) = text

regrouped : (a b c d e f : List ℕ) → a ++ b ++ c ++ d ++ e ++ f ≡ a ++ (b ++ c ++ d ++ e ++ f)
regrouped a b c d e f = simp append_assoc

-- the values were appended after the start of a line, and its end after them
line_of_found : (cpu : ℕ) (head : Head) (definition : Definition) (old text : List ℕ) (values : Option (List Datum))
    → Some text ≡ option_map (λ vs. old ++ line_start cpu head ++ definition.name ++ 58 ∷ [] ++ cells_text definition.fields vs) values
    → text ++ 10 ∷ [] ≡ old ++ line_of_row cpu head definition (option_map (λ vs. record { kinds = kinds_of definition; values = vs }) values)
unfolding row_line text_in IsFound
line_of_found cpu head definition old text None found = absurd (subst IsFound found tt)
line_of_found cpu head definition old text (Some vs) found =
    ap (λ all. text_in all ++ 10 ∷ []) found
    ∙ regrouped old (line_start cpu head) definition.name (58 ∷ []) (cells_text definition.fields vs) (10 ∷ [])

pub line_appended : (cpu : ℕ) (head : Head) (definition : Definition) (payload : List ℕ) (fields : List Field) (name old started named begun text all : List ℕ) (is_row : Bool)
    → started ≡ old ++ line_start cpu head → name ≡ definition.name → named ≡ started ++ name → begun ≡ named ++ 58 ∷ [] → fields ≡ definition.fields → is_row ≡ true
    → (if is_row then Some text else None) ≡ option_map (λ vs. begun ++ cells_text fields vs) (values_from (map (λ (f : Field). f.kind) fields) payload)
    → all ≡ text ++ 10 ∷ []
    → all ≡ old ++ line_of_row cpu head definition (row_from definition payload)
line_appended cpu head definition payload fields name old started named begun text all is_row start is_name then_name then_colon are_fields found cells end =
    let so_far : begun ≡ old ++ line_start cpu head ++ definition.name ++ 58 ∷ [] =
    then_colon ∙ ap (λ t. t ++ 58 ∷ []) (then_name ∙ (λ i. start i ++ is_name i)) in
    end
    ∙ line_of_found cpu head definition old text (values_from (kinds_of definition) payload)
    (ap (λ b. if b then Some text else None) (sym found) ∙ cells
    ∙ (λ i. option_map (λ vs. so_far i ++ cells_text (are_fields i) vs) (values_from (map (λ (f : Field). f.kind) (are_fields i)) payload)))
