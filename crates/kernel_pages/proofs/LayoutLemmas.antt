-- Where fields lie in the data of a record, and how long the data are.
use Rattle.std.proofs.Common.{◌≡◌, ℕ, ◌+◌, ◌-◌, ◌*◌, ◌/◌, ◌%◌, ◌^◌, ◌<◌, ◌≤◌, IsTrue, List, [], ◌∷◌, ◌++◌, length, take, drop, map, replicate, refl, sym, ap, ◌∙◌, subst, append_assoc, arith, lit≤, length-append, append-nil}
use Rattle.std.specs.Prelude.{codes}
use Rattle.std.specs.Int.{w32, cast_unsigned, cast_signed}
use Rattle.std.specs.List.{AllZip}
use Rattle.std.proofs.lemmas.Nat.{div-add-mod', mod_below, mod-mul-add, from_le_bytes-to_le_bytes_2, from_le_bytes-to_le_bytes_4}
use Rattle.std.proofs.lemmas.Int.{to_z-of_z}
use Rattle.std.proofs.Math.Facts.{Fits-of_z}
use Rattle.std.proofs.lemmas.List.{take_at, drop_at, drop-drop, length-take, length-replicate}
use Rattle.std.proofs.lemmas.Bool.Decides.{nat_tests}
use Rattle.trace_record.specs.declared.head.Head.{Head}
use Rattle.trace_format.specs.declared.kind.NumberType.{NumberType}
use Rattle.trace_format.specs.declared.kind.NumberType.TheVariants.{U8, U16, U32, U64, S8, S16, S32, S64, Int, PidT, UnsignedInt, Long, UnsignedLong}
use Rattle.trace_format.specs.declared.kind.Kind.{Kind}
use Rattle.trace_format.specs.declared.kind.Kind.TheVariants.{Number, Char}
use Rattle.trace_format.specs.declared.event.Field.{Field}
use Rattle.trace_format.specs.Kinds.{number_size, size_of}
use Rattle.trace_format.specs.Definitions.{Definition, IsDefinition, AreFields, is_kind}
use Rattle.trace_format.specs.Cells.{Datum, Holds, field_bytes, bytes_of, payload_of}
use Rattle.trace_format.proofs.Payloads.{length-field_bytes}
use Rattle.kernel_pages.specs.declared.page_row.PageRow.{PageRow}
use Rattle.kernel_pages.specs.Laws.{IsPageRow}
use Rattle.kernel_pages.specs.KernelFormats.{kernel_id, alignment, aligned, start_of, end_of, filled, fields_data, common_data, record_data, field_line, field_lines, common_lines, id_text, own_text, format_text, heading}
use Rattle.kernel_pages.specs.FormatLaws.{end_after, offset_of, LineHasOffset, ValueLiesAtOffset, CommonFieldsAreRead, EventFitsPage, FitPage, FieldIsAligned, IdIsInFormat}

number_size-range : (t : NumberType) → (1 ≤ number_size t) × (number_size t ≤ 8)
number_size-range U8 = (lit≤ tt, lit≤ tt)
number_size-range U16 = (lit≤ tt, lit≤ tt)
number_size-range U32 = (lit≤ tt, lit≤ tt)
number_size-range U64 = (lit≤ tt, lit≤ tt)
number_size-range S8 = (lit≤ tt, lit≤ tt)
number_size-range S16 = (lit≤ tt, lit≤ tt)
number_size-range S32 = (lit≤ tt, lit≤ tt)
number_size-range S64 = (lit≤ tt, lit≤ tt)
number_size-range Int = (lit≤ tt, lit≤ tt)
number_size-range PidT = (lit≤ tt, lit≤ tt)
number_size-range UnsignedInt = (lit≤ tt, lit≤ tt)
number_size-range Long = (lit≤ tt, lit≤ tt)
number_size-range UnsignedLong = (lit≤ tt, lit≤ tt)

pub alignment-range : (kind : Kind) → (1 ≤ alignment kind) × (alignment kind ≤ 8)
alignment-range (Number t) = number_size-range t
alignment-range (Char n) = (lit≤ tt, lit≤ tt)

-- the first multiple from a place on
record IsFirst (step at multiple : ℕ) : Type 0 where
  from : at ≤ multiple
  below : multiple < at + step

aligned-first : (step at : ℕ) → 1 ≤ step → IsFirst step at (aligned step at)
aligned-first step at some =
    let n = at + (step - 1) in
    let whole = div-add-mod' n step in
    let rest = mod_below n step some in
    record { from = omega arith; below = omega arith }

aligned-whole : (step at : ℕ) → 1 ≤ step → aligned step at % step ≡ 0
aligned-whole step at some =
    let count = (at + (step - 1)) / step in
    let e : count * step ≡ count * step + 0 = omega arith in
    ap (λ n. n % step) e ∙ mod-mul-add count step 0 some

start_from : (at : ℕ) (kind : Kind) → at ≤ start_of at kind
start_from at kind = (aligned-first (alignment kind) at (alignment-range kind).0).from

start_below : (at : ℕ) (kind : Kind) → start_of at kind < at + 8
start_below at kind =
    let first = aligned-first (alignment kind) at (alignment-range kind).0 in
    omega (arith, first.below, (alignment-range kind).1)

end_after_from : (at : ℕ) (fields : List Field) → at ≤ end_after at fields
end_after_from at [] = omega arith
end_after_from at (field ∷ fields) = omega (arith, start_from at field.kind, end_after_from (end_of at field.kind) fields)

length-filled : (size : ℕ) (bytes : List ℕ) → length (filled size bytes) ≡ size
length-filled size bytes = omega (arith, length-append (take size bytes) (replicate (size - length bytes) 0), length-take size bytes, length-replicate {A = ℕ} (size - length bytes) 0)

-- ---- how long the data are

length-field : (at : ℕ) (field : Field) (fields : List Field) (payload : List ℕ)
    → length (fields_data at (field ∷ fields) payload) ≡ (start_of at field.kind - at) + (size_of field.kind + length (fields_data (end_of at field.kind) fields (drop (size_of field.kind) payload)))
length-field at field fields payload =
    let zeros : List ℕ = replicate (start_of at field.kind - at) 0 in
    let bytes = filled (size_of field.kind) payload in
    let rest = fields_data (end_of at field.kind) fields (drop (size_of field.kind) payload) in
    omega (arith, length-append zeros (bytes ++ rest), length-append bytes rest, length-replicate {A = ℕ} (start_of at field.kind - at) 0, length-filled (size_of field.kind) payload)

pub ends_at_word : (at : ℕ) (fields : List Field) (payload : List ℕ) → (at + length (fields_data at fields payload)) % 4 ≡ 0
ends_at_word at [] payload = omega (arith, length-replicate {A = ℕ} (aligned 4 at - at) 0)
ends_at_word at (field ∷ fields) payload =
    omega (arith, length-field at field fields payload, start_from at field.kind, ends_at_word (end_of at field.kind) fields (drop (size_of field.kind) payload))

size-most : (kind : Kind) → IsTrue (is_kind kind) → size_of kind ≤ 64
size-most (Number t) is = omega (arith, (number_size-range t).1)
size-most (Char n) is = grind (arith, nat_tests)

few_bytes : (at : ℕ) (before fields : List Field) (payload : List ℕ) → AreFields before fields → length (fields_data at fields payload) ≤ 71 * length fields + 3
few_bytes at before [] payload are = omega (arith, length-replicate {A = ℕ} (aligned 4 at - at) 0)
few_bytes at before (field ∷ fields) payload are =
    omega (
      arith,
      length-field at field fields payload,
      start_below at field.kind,
      size-most field.kind are.0.sized,
      few_bytes (end_of at field.kind) (before ++ field ∷ []) fields (drop (size_of field.kind) payload) are.1,
    )

pub event_fits_page : EventFitsPage
unfolding record_data
event_fits_page definition is few head payload =
    omega (arith, length-append (common_data head) (fields_data 8 definition.fields payload), few_bytes 8 [] definition.fields payload is.fields)

pub fields_fit : (definition : Definition) (fields : List Field) → fields ≡ definition.fields → IsDefinition definition → length definition.fields ≤ 16 → FitPage fields
fields_fit definition fields e is few head payload = subst (λ (fs : List Field). length (record_data head fs payload) ≤ 4056) (sym e) (event_fits_page definition is few head payload)

pub no_fields_fit : FitPage []
unfolding record_data
no_fields_fit head payload = omega (arith, length-append (common_data head) (fields_data 8 [] payload), few_bytes 8 [] [] payload tt)

-- data of whole words, two at least
pub record IsWhole (bytes : List ℕ) : Type 0 where
  pub words : length bytes % 4 ≡ 0
  pub some : 4 ≤ length bytes

pub record_data-whole : (head : Head) (fields : List Field) (payload : List ℕ) → IsWhole (record_data head fields payload)
unfolding record_data
record_data-whole head fields payload =
    let size = length-append (common_data head) (fields_data 8 fields payload) in
    let word = ends_at_word 8 fields payload in
    record { words = omega arith; some = omega arith }

pub is_page_row : (row : PageRow) (head : Head) (fields : List Field) (payload : List ℕ) → row.bytes ≡ record_data head fields payload → row.time < 2 ^ 64 → row.lost < 2 ^ 64 → IsPageRow row
is_page_row row head fields payload e time lost =
    let whole = record_data-whole head fields payload in
    record {
      words = subst (λ (bytes : List ℕ). length bytes % 4 ≡ 0) (sym e) whole.words;
      some = subst (λ (bytes : List ℕ). 4 ≤ length bytes) (sym e) whole.some;
      time = time;
      lost = lost;
    }

-- ---- where fields lie

pub field_is_aligned : FieldIsAligned
field_is_aligned at kind =
    let first = aligned-first (alignment kind) at (alignment-range kind).0 in
    let some = (alignment-range kind).0 in
    (first.from, first.below, aligned-whole (alignment kind) at some)

lines-append : (at : ℕ) (front others : List Field) → field_lines at (front ++ others) ≡ field_lines at front ++ field_lines (end_after at front) others
lines-append at [] others = refl
lines-append at (field ∷ front) others =
    ap (λ lines. field_line (start_of at field.kind) field ++ lines) (lines-append (end_of at field.kind) front others)
    ∙ sym (append_assoc (field_line (start_of at field.kind) field) (field_lines (end_of at field.kind) front) (field_lines (end_after (end_of at field.kind) front) others))

pub line_has_offset : LineHasOffset
line_has_offset front field back = lines-append 8 front (field ∷ back)

abbrev kinds_in : List Field → List Kind
kinds_in fields = map (λ field. field.kind) fields

-- the bytes of a value, and then others
filled_value : (size : ℕ) (value rest : List ℕ) → length value ≡ size → filled size (value ++ rest) ≡ value
filled_value size value rest e =
    let none : size - length (value ++ rest) ≡ 0 = omega (arith, length-append value rest) in
    (λ i. take_at value rest size e i ++ replicate (none i) 0) ∙ append-nil value

-- behind zeros and a value
behind : (gap size more : ℕ) (zeros value rest : List ℕ) → length zeros ≡ gap → length value ≡ size → drop (gap + (size + more)) (zeros ++ (value ++ rest)) ≡ drop more rest
behind gap size more zeros value rest z v =
    sym (drop-drop (size + more) gap (zeros ++ (value ++ rest)))
    ∙ ap (drop (size + more)) (drop_at zeros (value ++ rest) gap z)
    ∙ sym (drop-drop more size (value ++ rest))
    ∙ ap (drop more) (drop_at value rest size v)

value_at_offset : (at : ℕ) (front : List Field) (field : Field) (back : List Field) (values_front : List Datum) (value : Datum) (values_back : List Datum) → length values_front ≡ length front
    → AllZip Holds (kinds_in (front ++ field ∷ back)) (values_front ++ value ∷ values_back)
    → take (size_of field.kind) (drop (start_of (end_after at front) field.kind - at) (fields_data at (front ++ field ∷ back) (bytes_of (kinds_in (front ++ field ∷ back)) (values_front ++ value ∷ values_back))))
    ≡ field_bytes field.kind value
value_at_offset at [] field back [] value values_back paired held =
    let here = field_bytes field.kind value in
    let rest = bytes_of (kinds_in back) values_back in
    let size = length-field_bytes field.kind value held.0 in
    let gap = start_of at field.kind - at in
    let later = fields_data (end_of at field.kind) back (drop (size_of field.kind) (here ++ rest)) in
    ap (take (size_of field.kind)) (drop_at (replicate gap 0) (filled (size_of field.kind) (here ++ rest) ++ later) gap (length-replicate gap 0))
    ∙ ap (λ bytes. take (size_of field.kind) (bytes ++ later)) (filled_value (size_of field.kind) here rest size)
    ∙ take_at here later (size_of field.kind) size
value_at_offset at [] field back (other ∷ values_front) value values_back paired held = absurd (omega (arith, paired))
value_at_offset at (other ∷ front) field back [] value values_back paired held = absurd (omega (arith, paired))
value_at_offset at (other ∷ front) field back (first ∷ values_front) value values_back paired held =
    let fields = front ++ field ∷ back in
    let here = field_bytes other.kind first in
    let rest = bytes_of (kinds_in fields) (values_front ++ value ∷ values_back) in
    let size = length-field_bytes other.kind first held.0 in
    let gap = start_of at other.kind - at in
    let next = end_of at other.kind in
    let later = fields_data next fields (drop (size_of other.kind) (here ++ rest)) in
    let offset = start_of (end_after next front) field.kind in
    let from : at ≤ start_of at other.kind = start_from at other.kind in
    let after : next ≤ offset = omega (arith, end_after_from next front, start_from (end_after next front) field.kind) in
    let way : offset - at ≡ gap + (size_of other.kind + (offset - next)) = omega arith in
    ap (λ n. take (size_of field.kind) (drop n (fields_data at (other ∷ fields) (here ++ rest)))) way
    ∙ ap (take (size_of field.kind)) (behind gap (size_of other.kind) (offset - next) (replicate gap 0) (filled (size_of other.kind) (here ++ rest)) later (length-replicate gap 0) (length-filled (size_of other.kind) (here ++ rest)))
    ∙ ap (λ bytes. take (size_of field.kind) (drop (offset - next) (fields_data next fields bytes))) (drop_at here rest (size_of other.kind) size)
    ∙ value_at_offset next front field back values_front value values_back (omega (arith, paired)) held.1

pub value_lies_at_offset : ValueLiesAtOffset
unfolding record_data
value_lies_at_offset definition row front field value head is at =
    let fields = front ++ field ∷ at.back in
    let values = at.values_front ++ value ∷ at.values_back in
    let kinds : row.kinds ≡ kinds_in fields = is.kinds ∙ ap kinds_in at.fields in
    let held : AllZip Holds (kinds_in fields) values = subst (AllZip Holds (kinds_in fields)) at.values (subst (λ k. AllZip Holds k row.values) kinds is.values) in
    let offset = offset_of front field in
    let after : 8 ≤ offset = omega (arith, end_after_from 8 front, start_from (end_after 8 front) field.kind) in
    let sum : offset ≡ 8 + (offset - 8) = omega arith in
    let bytes = fields_data 8 definition.fields (payload_of row) in
    let these : bytes ≡ fields_data 8 fields (bytes_of (kinds_in fields) values) = (λ i. fields_data 8 (at.fields i) (bytes_of (kinds i) (at.values i))) in
    ap (λ n. take (size_of field.kind) (drop n (common_data head ++ bytes))) sum
    ∙ ap (take (size_of field.kind)) (sym (drop-drop (offset - 8) 8 (common_data head ++ bytes)))
    ∙ ap (λ bytes. take (size_of field.kind) (drop (offset - 8) bytes)) these
    ∙ value_at_offset 8 front field at.back at.values_front value at.values_back at.paired held

-- ---- the common fields

pieces : (name id text common line own : List ℕ) → name ++ id ++ text ++ common ++ line ++ own ≡ name ++ (id ++ (text ++ common ++ line ++ own))
pieces name id text common line own = simp append_assoc

pub id_is_in_format : IdIsInFormat
unfolding format_text heading
id_is_in_format number definition =
    pieces (codes "name: " ++ definition.name ++ codes "\nID: ") (id_text number) (codes "format:\n") common_lines (codes "\n") (own_text definition.fields)

pub common_fields_are_read : CommonFieldsAreRead
unfolding record_data
common_fields_are_read head fields payload id pid = (
  from_le_bytes-to_le_bytes_2 (kernel_id head.event) id,
  ap (cast_signed w32) (from_le_bytes-to_le_bytes_4 (cast_unsigned w32 head.pid) (let k = Fits-of_z pid in omega arith)) ∙ to_z-of_z w32 head.pid pid,
)
