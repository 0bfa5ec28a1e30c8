-- Where the fields of a record lie.
use Rattle.std.proofs.Common.{◌≡◌, ℕ, ◌+◌, List, [], ◌∷◌, ◌++◌, length, map, take, drop, refl, sym, ap, ◌∙◌, subst, append_assoc, arith, length-append}
use Rattle.std.specs.Prelude.{codes}
use Rattle.std.specs.Fmt.{decimal}
use Rattle.std.specs.List.{AllZip}
use Rattle.std.proofs.lemmas.List.{take_at, drop_at}
use Rattle.trace_record.specs.Record.{head_bytes}
use Rattle.trace_format.specs.declared.kind.Kind.{Kind}
use Rattle.trace_format.specs.declared.event.Field.{Field}
use Rattle.trace_format.specs.Kinds.{size_of}
use Rattle.trace_format.specs.Definitions.{Definition}
use Rattle.trace_format.specs.Cells.{Cells, Datum, Holds, IsRowOf, field_bytes, bytes_of, size_of_all, payload_of}
use Rattle.trace_format.proofs.Payloads.{length-field_bytes}
use Rattle.trace_format.proofs.SizeLemmas.{length-bytes_of}
use Rattle.record_text.specs.FormatText.{field_line, field_lines, common_pid_line, format_text}
use Rattle.record_text.specs.Laws.{offset_behind, IsValueBehind, LineHasOffset, ValueLiesAtOffset, ValueHasItsSize}
use Rattle.record_text.proofs.RecordLemmas.{sixteen}

abbrev kinds_in : List Field → List Kind
kinds_in fields = map (λ field. field.kind) fields

-- ---- the lines of a format

size_of_all-push : (front : List Field) (field : Field) → size_of_all (kinds_in (front ++ field ∷ [])) ≡ size_of_all (kinds_in front) + size_of field.kind
size_of_all-push [] field = omega arith
size_of_all-push (other ∷ front) field = omega (arith, size_of_all-push front field)

field_lines-append : (offset : ℕ) (front others : List Field) → field_lines offset (front ++ others) ≡ field_lines offset front ++ field_lines (offset + size_of_all (kinds_in front)) others
field_lines-append offset [] others = ap (λ n. field_lines n others) (let e : offset ≡ offset + 0 = omega arith in e)
field_lines-append offset (field ∷ front) others =
    let next = offset + size_of field.kind in
    let end : next + size_of_all (kinds_in front) ≡ offset + (size_of field.kind + size_of_all (kinds_in front)) = omega arith in
    ap (λ lines. field_line offset field ++ lines) (field_lines-append next front others ∙ ap (λ n. field_lines next front ++ field_lines n others) end)
    ∙ sym (append_assoc (field_line offset field) (field_lines next front) (field_lines (offset + (size_of field.kind + size_of_all (kinds_in front))) others))

-- ---- the bytes of a row

-- what is known of a value behind others
record IsHeld (front : List Field) (field : Field) (values_front : List Datum) (value : Datum) : Type 0 where
  others : AllZip Holds (kinds_in front) values_front
  here : Holds field.kind value

held_behind : (front : List Field) (field : Field) (back : List Field) (values_front : List Datum) (value : Datum) (values_back : List Datum) → length values_front ≡ length front
    → AllZip Holds (kinds_in (front ++ field ∷ back)) (values_front ++ value ∷ values_back) → IsHeld front field values_front value
held_behind [] field back [] value values_back paired held = record { others = tt; here = held.0 }
held_behind [] field back (other ∷ values_front) value values_back paired held = absurd (omega (arith, paired))
held_behind (other ∷ front) field back [] value values_back paired held = absurd (omega (arith, paired))
held_behind (first ∷ front) field back (other ∷ values_front) value values_back paired held =
    let rest = held_behind front field back values_front value values_back (omega (arith, paired)) held.1 in
    record { others = (held.0, rest.others); here = rest.here }

bytes_of-behind : (front : List Field) (field : Field) (back : List Field) (values_front : List Datum) (value : Datum) (values_back : List Datum) → length values_front ≡ length front
    → bytes_of (kinds_in (front ++ field ∷ back)) (values_front ++ value ∷ values_back) ≡ bytes_of (kinds_in front) values_front ++ (field_bytes field.kind value ++ bytes_of (kinds_in back) values_back)
bytes_of-behind [] field back [] value values_back paired = refl
bytes_of-behind [] field back (other ∷ values_front) value values_back paired = absurd (omega (arith, paired))
bytes_of-behind (other ∷ front) field back [] value values_back paired = absurd (omega (arith, paired))
bytes_of-behind (first ∷ front) field back (other ∷ values_front) value values_back paired =
    ap (λ bytes. field_bytes first.kind other ++ bytes) (bytes_of-behind front field back values_front value values_back (omega (arith, paired)))
    ∙ sym (append_assoc (field_bytes first.kind other) (bytes_of (kinds_in front) values_front) (field_bytes field.kind value ++ bytes_of (kinds_in back) values_back))

-- the values of a row of the event, and of the fields behind others
module _ (definition : Definition) (row : Cells) (front : List Field) (field : Field) (value : Datum) (is : IsRowOf definition row) (at : IsValueBehind definition row front field value) where
  kinds_are : row.kinds ≡ kinds_in (front ++ field ∷ at.back)
  kinds_are = is.kinds ∙ ap kinds_in at.fields

  held_there : IsHeld front field at.values_front value
  held_there =
      let kinds = kinds_are in
      let held : AllZip Holds (kinds_in (front ++ field ∷ at.back)) (at.values_front ++ value ∷ at.values_back) =
      subst (AllZip Holds (kinds_in (front ++ field ∷ at.back))) at.values (subst (λ k. AllZip Holds k row.values) kinds is.values) in
      held_behind front field at.back at.values_front value at.values_back at.paired held

  payload_there : payload_of row ≡ bytes_of (kinds_in front) at.values_front ++ (field_bytes field.kind value ++ bytes_of (kinds_in at.back) at.values_back)
  payload_there =
      let kinds = kinds_are in
      (λ i. bytes_of (kinds i) (at.values i)) ∙ bytes_of-behind front field at.back at.values_front value at.values_back at.paired

-- ---- the laws

regrouped : (a b c d : List ℕ) → a ++ (b ++ (c ++ d)) ≡ a ++ b ++ c ++ d
regrouped a b c d = simp append_assoc

pub line_has_offset : LineHasOffset
unfolding format_text
line_has_offset id definition front field back cut =
    let heading = codes "name: " ++ definition.name ++ codes "\nID: " ++ decimal id ++ codes "\nformat:\n" ++ common_pid_line ++ codes "\n" in
    let next : offset_behind front + size_of field.kind ≡ offset_behind (front ++ field ∷ []) = omega (arith, size_of_all-push front field) in
    let lines : field_lines 16 definition.fields ≡ field_lines 16 front ++ (field_line (offset_behind front) field ++ field_lines (offset_behind (front ++ field ∷ [])) back) =
    ap (field_lines 16) cut ∙ field_lines-append 16 front (field ∷ back)
    ∙ ap (λ n. field_lines 16 front ++ (field_line (offset_behind front) field ++ field_lines n back)) next in
    ap (λ text. heading ++ text) lines
    ∙ regrouped heading (field_lines 16 front) (field_line (offset_behind front) field) (field_lines (offset_behind (front ++ field ∷ [])) back)

pub value_has_its_size : ValueHasItsSize
value_has_its_size definition row front field value is at = length-field_bytes field.kind value (held_there definition row front field value is at).here

in_record : (a b c d e : List ℕ) → a ++ (b ++ (c ++ d)) ++ e ≡ a ++ b ++ (c ++ (d ++ e))
in_record a b c d e = simp append_assoc

pub value_lies_at_offset : ValueLiesAtOffset
value_lies_at_offset definition row front field value head padding is at =
    let held = held_there definition row front field value is at in
    let others = bytes_of (kinds_in front) at.values_front in
    let start = head_bytes head ++ others in
    let here = field_bytes field.kind value in
    let rest = bytes_of (kinds_in at.back) at.values_back ++ padding in
    let size : length start ≡ offset_behind front =
    omega (arith, length-append (head_bytes head) others, sixteen head, length-bytes_of (kinds_in front) at.values_front held.others) in
    let record_is : head_bytes head ++ payload_of row ++ padding ≡ start ++ (here ++ rest) =
    ap (λ payload. head_bytes head ++ payload ++ padding) (payload_there definition row front field value is at)
    ∙ in_record (head_bytes head) others here (bytes_of (kinds_in at.back) at.values_back) padding in
    ap (λ bytes. take (size_of field.kind) (drop (offset_behind front) bytes)) record_is
    ∙ ap (take (size_of field.kind)) (drop_at start (here ++ rest) (offset_behind front) size)
    ∙ take_at here rest (size_of field.kind) (length-field_bytes field.kind value held.here)
