-- Steps of the loop that prints the values of a payload: the text so far and that of the values that are left are the text of all.
use Rattle.std.proofs.Common.{◌≡◌, ℕ, ◌+◌, ◌<◌, ◌≤◌, Bool, false, ◌==◌, if◌then◌else◌, List, [], ◌∷◌, ◌++◌, length, get_or, take, drop, map, Option, None, Some, option_map, option_and_then, refl, sym, ap, ◌∙◌, append_assoc, arith, le-ltb, lt-ltb}
use Rattle.std.proofs.lemmas.Bool.{cond-true, cond-false}
use Rattle.std.proofs.lemmas.Bool.Decides.{nat_tests}
use Rattle.std.proofs.lemmas.List.{append-nil, drop_all}
use Rattle.trace_format.specs.declared.event.Field.{Field}
use Rattle.trace_format.specs.Kinds.{size_of}
use Rattle.trace_format.specs.Cells.{Datum}
use Rattle.trace_format.specs.Decoding.{field_from, values_from}
use Rattle.trace_format.proofs.LoopLemmas.{left}
use Rattle.record_text.specs.RecordText.{cell_text, cells_text}

-- the values that bytes write of these fields
abbrev values_of : List Field → List ℕ → Option (List Datum)
values_of fields bytes = values_from (map (λ (f : Field). f.kind) fields) bytes

moved : (field : Field) (value : Datum) (fields : List Field) (old new : List ℕ) (values : Option (List Datum)) → new ≡ old ++ cell_text field value
    → option_map (λ vs. new ++ cells_text fields vs) values ≡ option_map (λ vs. old ++ cells_text (field ∷ fields) vs) (option_map (λ vs. value ∷ vs) values)
moved field value fields old new None written = refl
moved field value fields old new (Some vs) written =
    ap Some (ap (λ text. text ++ cells_text fields vs) written ∙ append_assoc old (cell_text field value) (cells_text fields vs))

module _ (fields : List Field) (i : ℕ) (rest text : List ℕ) (all : Option (List ℕ))
    (so_far : option_map (λ vs. text ++ cells_text (drop i fields) vs) (values_of (drop i fields) rest) ≡ all) where
  not_left : values_of (drop i fields) rest ≡ None → None ≡ all
  not_left none = sym (ap (option_map (λ vs. text ++ cells_text (drop i fields) vs)) none) ∙ so_far

  module _ (field : Field) (within : i < length fields) (is : field ≡ get_or fields i field) where
    here : values_of (drop i fields) rest ≡ values_of (field ∷ drop (i + 1) fields) rest
    here = ap (λ fs. values_of fs rest) (left fields i field within is)

    -- too few bytes are left for a field
    pub too_few : length rest < size_of field.kind → None ≡ all
    too_few few = not_left (here ∙ cond-true _ _ _ (lt-ltb _ _ few))

    -- there are enough, of which the field's value is this
    read : (value : Option Datum) → size_of field.kind ≤ length rest → value ≡ field_from field.kind (take (size_of field.kind) rest)
        → values_of (field ∷ drop (i + 1) fields) rest
        ≡ option_and_then (λ v. option_map (λ vs. v ∷ vs) (values_of (drop (i + 1) fields) (drop (size_of field.kind) rest))) value
    read value room given_by =
        cond-false _ _ _ (le-ltb _ _ room)
        ∙ ap (option_and_then (λ v. option_map (λ vs. v ∷ vs) (values_of (drop (i + 1) fields) (drop (size_of field.kind) rest)))) (sym given_by)

    pub no_value : size_of field.kind ≤ length rest → None ≡ field_from field.kind (take (size_of field.kind) rest) → None ≡ all
    no_value room none = not_left (here ∙ read None room none)

    pub value_more : (value : Datum) (new : List ℕ) → size_of field.kind ≤ length rest → Some value ≡ field_from field.kind (take (size_of field.kind) rest)
        → new ≡ text ++ cell_text field value
        → option_map (λ vs. new ++ cells_text (drop (i + 1) fields) vs) (values_of (drop (i + 1) fields) (drop (size_of field.kind) rest)) ≡ all
    value_more value new room some written =
        moved field value (drop (i + 1) fields) text new (values_of (drop (i + 1) fields) (drop (size_of field.kind) rest)) written
        ∙ ap (option_map (λ vs. text ++ cells_text (field ∷ drop (i + 1) fields) vs)) (sym (read (Some value) room some))
        ∙ ap (λ fs. option_map (λ vs. text ++ cells_text fs vs) (values_of fs rest)) (sym (left fields i field within is))
        ∙ so_far

  -- with no field left the bytes have to be at their end
  pub values_done : length fields ≤ i → (at_end : Bool) → at_end ≡ (length rest == 0) → (if at_end then Some text else None) ≡ all
  values_done no_more at_end is =
      by rest is (ap (λ fs. option_map (λ vs. text ++ cells_text fs vs) (values_of fs rest)) (sym (drop_all i fields no_more)) ∙ so_far)
    where
      by : (bytes : List ℕ) → at_end ≡ (length bytes == 0) → option_map (λ vs. text ++ cells_text [] vs) (values_of [] bytes) ≡ all
          → (if at_end then Some text else None) ≡ all
      by [] end h = ap (λ b. if b then Some text else None) end ∙ ap Some (sym (append-nil text)) ∙ h
      by (b ∷ bytes) end h =
          let more : (length (b ∷ bytes) == 0) ≡ false = grind (arith, nat_tests) in
          ap (λ b. if b then Some text else None) (end ∙ more) ∙ h
