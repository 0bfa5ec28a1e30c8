-- Fields, rows and their bytes.
use Rattle.std.proofs.Common.{◌≡◌, ℕ, zero, suc, ◌+◌, ◌-◌, ◌<◌, ◌≤◌, Bool, true, false, if◌then◌else◌, List, [], ◌∷◌, ◌++◌, length, get_or, take, drop, map, replicate, Option, None, Some, option_map, option_and_then, refl, sym, ap, ◌∙◌, subst, ◌↔◌, Fits, w8, length-take-le, arith, one-add, lt-ltb, le-ltb, ltb-true, ltb-false, eqb-true, append-nil, take-append-drop, length-drop, length-append}
use Rattle.std.specs.List.{list_all, prefix_len, All, AllZip}
use Rattle.std.proofs.lemmas.Bool.{and_parts, and_from, cond-true, cond-false}
use Rattle.std.proofs.lemmas.Bool.Decides.{nat_tests}
use Rattle.std.proofs.lemmas.List.{length-replicate, length-map, take_at, take_all, drop_at, drop_more}
use Rattle.std.proofs.lemmas.Slice.Zip.{AllZip-long}
use Rattle.trace_lex.specs.Prefixes.{is_not}
use Rattle.trace_format.specs.declared.value.Value.{Value}
use Rattle.std.proofs.lemmas.List.Elements.{All-head, All-tail}
use Rattle.std.proofs.lemmas.List.Folds.{length-prefix_len}
use Rattle.trace_format.specs.declared.kind.Kind.{Kind}
use Rattle.trace_format.specs.declared.kind.Kind.TheVariants.{Number, Char}
use Rattle.trace_format.specs.Kinds.{number_size, size_of}
use Rattle.trace_format.specs.Cells.{Datum, Whole, Bytes, datum_of, Cells, Holds, is_printable, two's_complement, field_bytes, bytes_of, size_of_all, IsRowOf, kinds_of, payload_of}
use Rattle.trace_format.specs.Definitions.{Definition}
use Rattle.trace_format.specs.Decoding.{is_zero, text_at, text_from, field_from, values_from, row_from}
use Rattle.trace_lex.proofs.Options.{if_some, some_is, map_some, and_then_some}
use Rattle.trace_format.proofs.Patterns.{AreBytes, length-little_endian, number-written, number-read, number-held}

-- ---- texts

printable_nonzero : (b : ℕ) → is_printable b ≡ true → is_not 0 b ≡ true
printable_nonzero b h = grind (arith, nat_tests)

-- a text ends at the first of the zeros behind it
text_end : (text : List ℕ) (n : ℕ) → list_all is_printable text ≡ true → prefix_len (is_not 0) (text ++ replicate n 0) ≡ length text
text_end [] zero h = refl
text_end [] (suc n) h = refl
text_end (b ∷ text) n h = cond-true _ _ _ (printable_nonzero b (and_parts _ _ h).0) ∙ ap (λ n. 1 + n) (text_end text n (and_parts _ _ h).1) ∙ one-add (length text)

all_zeros : (n : ℕ) → list_all is_zero (replicate n 0) ≡ true
all_zeros zero = refl
all_zeros (suc n) = all_zeros n

zeros_are : (bytes : List ℕ) → list_all is_zero bytes ≡ true → bytes ≡ replicate (length bytes) 0
zeros_are [] h = refl
zeros_are (b ∷ bytes) h = (λ i. eqb-true b 0 (and_parts _ _ h).0 i ∷ zeros_are bytes (and_parts _ _ h).1 i)

pub text-written : (n : ℕ) (text : List ℕ) → Holds (Char n) (Bytes text) → text_from (text ++ replicate (n - length text) 0) ≡ Some (Bytes text)
text-written n text held =
    let zeros = replicate (n - length text) 0 in
    let size : length text < length (text ++ zeros) = omega (arith, held.0, length-append text zeros, length-replicate {A = ℕ} (n - length text) 0) in
    let front : take (length text) (text ++ zeros) ≡ text = take_at text zeros (length text) refl in
    let back : drop (length text) (text ++ zeros) ≡ zeros = drop_at text zeros (length text) refl in
    ap (λ k. text_at k (text ++ zeros)) (text_end text (n - length text) held.1)
    ∙ cond-true _ _ _ (and_from _ _ (and_from _ _ (lt-ltb _ _ size) (ap (list_all is_printable) front ∙ held.1)) (ap (list_all is_zero) back ∙ all_zeros (n - length text)))
    ∙ ap (λ t. Some (Bytes t)) front

-- a text field that was read
pub record IsText (n : ℕ) (bytes : List ℕ) (value : Datum) : Type 0 where
  pub held : Holds (Char n) value
  pub written : field_bytes (Char n) value ≡ bytes

pub text-read : (bytes : List ℕ) (value : Datum) → text_from bytes ≡ Some value → IsText (length bytes) bytes value
text-read bytes value h =
    let size = prefix_len (is_not 0) bytes in
    let test = if_some _ h in
    let parts = and_parts _ _ test.0 in
    let front = and_parts _ _ parts.0 in
    let short : size < length bytes = ltb-true _ _ front.0 in
    let text = take size bytes in
    let text_size : length text ≡ size = length-prefix_len (is_not 0) bytes in
    let zeros : drop size bytes ≡ replicate (length bytes - length text) 0 =
    zeros_are (drop size bytes) parts.1 ∙ ap (λ k. replicate k 0) (length-drop size bytes ∙ ap (λ k. length bytes - k) (sym text_size)) in
    subst (IsText (length bytes) bytes) test.1 (record {
      held = (omega (arith, text_size, short), front.1);
      written = ap (λ z. text ++ z) (sym zeros) ∙ take-append-drop size bytes;
    })

-- ---- fields

pub field-written : (kind : Kind) (value : Datum) → Holds kind value → field_from kind (field_bytes kind value) ≡ Some value
field-written (Number t) (Whole n) held = ap (λ z. Some (Whole z)) (number-written t n held)
field-written (Number t) (Bytes text) held = elim held [ ]
field-written (Char n) (Whole z) held = elim held [ ]
field-written (Char n) (Bytes text) held = text-written n text held

pub length-field_bytes : (kind : Kind) (value : Datum) → Holds kind value → length (field_bytes kind value) ≡ size_of kind
length-field_bytes (Number t) (Whole n) held = length-little_endian (number_size t) (two's_complement (number_size t) n)
length-field_bytes (Number t) (Bytes text) held = elim held [ ]
length-field_bytes (Char n) (Whole z) held = elim held [ ]
length-field_bytes (Char n) (Bytes text) held = omega (arith, held.0, length-append text (replicate (n - length text) 0), length-replicate {A = ℕ} (n - length text) 0)

pub record IsField (kind : Kind) (bytes : List ℕ) (value : Datum) : Type 0 where
  pub held : Holds kind value
  pub written : field_bytes kind value ≡ bytes

pub field-read : (kind : Kind) (bytes : List ℕ) (value : Datum) → AreBytes bytes → length bytes ≡ size_of kind → field_from kind bytes ≡ Some value → IsField kind bytes value
field-read (Number t) bytes value are size h = subst (IsField (Number t) bytes) (some_is h) (record { held = number-held t bytes are size; written = number-read t bytes are size })
field-read (Char n) bytes value are size h =
    let read = text-read bytes value h in
    subst (λ k. IsField (Char k) bytes value) size (record { held = read.held; written = read.written })

-- ---- rows

pub values-written : (kinds : List Kind) (values : List Datum) → AllZip Holds kinds values → values_from kinds (bytes_of kinds values) ≡ Some values
values-written [] [] held = refl
values-written [] (value ∷ values) held = elim held [ ]
values-written (kind ∷ kinds) [] held = elim held [ ]
values-written (kind ∷ kinds) (value ∷ values) held =
    let field = field_bytes kind value in
    let others = bytes_of kinds values in
    let size : length field ≡ size_of kind = length-field_bytes kind value held.0 in
    let room : size_of kind ≤ length (field ++ others) = omega (arith, size, length-append field others) in
    let front : take (size_of kind) (field ++ others) ≡ field = take_at field others (size_of kind) size in
    let back : drop (size_of kind) (field ++ others) ≡ others = drop_at field others (size_of kind) size in
    cond-false _ _ _ (le-ltb _ _ room)
    ∙ (λ i. option_and_then (λ v. option_map (λ vs. v ∷ vs) (values_from kinds (back i))) (field_from kind (front i)))
    ∙ ap (option_and_then (λ v. option_map (λ vs. v ∷ vs) (values_from kinds others))) (field-written kind value held.0)
    ∙ ap (option_map (λ vs. value ∷ vs)) (values-written kinds values held.1)

AreBytes-take : (n : ℕ) (bytes : List ℕ) → AreBytes bytes → AreBytes (take n bytes)
AreBytes-take zero bytes are = tt
AreBytes-take (suc n) [] are = tt
AreBytes-take (suc n) (b ∷ bytes) are = (are.0, AreBytes-take n bytes are.1)

AreBytes-drop : (n : ℕ) (bytes : List ℕ) → AreBytes bytes → AreBytes (drop n bytes)
AreBytes-drop zero bytes are = are
AreBytes-drop (suc n) [] are = tt
AreBytes-drop (suc n) (b ∷ bytes) are = AreBytes-drop n bytes are.1

unless_some : {A : Type 0} {o : Option A} {y : A} (b : Bool) → (if b then None else o) ≡ Some y → (b ≡ false) × (o ≡ Some y)
unless_some true h = absurd (cc)
unless_some false h = (refl, h)

-- values that were read
pub record AreRead (kinds : List Kind) (bytes : List ℕ) (values : List Datum) : Type 0 where
  pub held : AllZip Holds kinds values
  pub written : bytes_of kinds values ≡ bytes

pub values-read : (kinds : List Kind) (bytes : List ℕ) (values : List Datum) → AreBytes bytes → values_from kinds bytes ≡ Some values → AreRead kinds bytes values
values-read [] [] values are h = subst (AreRead [] []) (some_is h) (record { held = tt; written = refl })
values-read [] (b ∷ bytes) values are h = absurd (cc)
values-read (kind ∷ kinds) bytes values are h =
    let test = unless_some _ h in
    let first = and_then_some (λ v. option_map (λ vs. v ∷ vs) (values_from kinds (drop (size_of kind) bytes))) (field_from kind (take (size_of kind) bytes)) values test.1 in
    let others = map_some (λ vs. first.value ∷ vs) (values_from kinds (drop (size_of kind) bytes)) values first.gives in
    let room : size_of kind ≤ length bytes = ltb-false _ _ test.0 in
    let size : length (take (size_of kind) bytes) ≡ size_of kind = length-take-le (size_of kind) bytes room in
    let field = field-read kind (take (size_of kind) bytes) first.value (AreBytes-take (size_of kind) bytes are) size first.was in
    let rest = values-read kinds (drop (size_of kind) bytes) others.value (AreBytes-drop (size_of kind) bytes are) others.was in
    subst (AreRead (kind ∷ kinds) bytes) others.gives (record {
      held = (field.held, rest.held);
      written = (λ i. field.written i ++ rest.written i) ∙ take-append-drop (size_of kind) bytes;
    })

pub are_bytes : (bytes : List ℕ) → ((i : ℕ) → Fits w8 (get_or bytes i 0)) → AreBytes bytes
are_bytes [] fits = tt
are_bytes (b ∷ bytes) fits = (let small : b < 256 = omega (arith, fits 0) in small, are_bytes bytes (λ i. fits (suc i)))

-- the bytes are a row's exactly where they are read as it
pub decoded : (definition : Definition) (bytes : List ℕ) (kinds : List Kind) (values : List Datum) (row : Cells) → AreBytes bytes → kinds ≡ kinds_of definition → values_from (kinds_of definition) bytes ≡ Some values
    → (◌≡◌ {A = Option Cells} (Some (record { kinds = kinds; values = values })) (Some row)) ↔ (IsRowOf definition row × (bytes ≡ payload_of row))
decoded definition bytes kinds values row are kinds_are h =
    let read = values-read (kinds_of definition) bytes values are h in (
      λ e. subst (λ r. IsRowOf definition r × (bytes ≡ payload_of r)) (some_is e) (record { kinds = kinds_are; values = subst (λ k. AllZip Holds k values) (sym kinds_are) read.held }, sym (ap (λ k. bytes_of k values) kinds_are ∙ read.written)),
      λ is.
          let all : values_from (kinds_of definition) bytes ≡ Some row.values =
          (let types = sym is.0.kinds in (λ i. values_from (types i) (is.1 i))) ∙ values-written row.kinds row.values is.0.values in
          let same : values ≡ row.values = some_is (sym h ∙ all) in
          let types : kinds ≡ row.kinds = kinds_are ∙ sym is.0.kinds in
          (λ i. Some (record { kinds = types i; values = same i })),
    )

pub not_decoded : (definition : Definition) (bytes : List ℕ) (row : Cells) → values_from (kinds_of definition) bytes ≡ None
    → (◌≡◌ {A = Option Cells} None (Some row)) ↔ (IsRowOf definition row × (bytes ≡ payload_of row))
not_decoded definition bytes row h = (
  λ e. absurd (cc),
  λ is.
      let all : values_from (kinds_of definition) bytes ≡ Some row.values =
      (let types = sym is.0.kinds in (λ i. values_from (types i) (is.1 i))) ∙ values-written row.kinds row.values is.0.values in
      let clash : None ≡ Some row.values = sym h ∙ all in
      cc,
)

-- the row of an event with values
row_with : Definition → List Datum → Cells
row_with definition values = record { kinds = kinds_of definition; values = values }

-- bytes that are read as values are read as their row, and others as none
pub decoded_exactly : (definition : Definition) (bytes : List ℕ) (kinds : List Kind) (values : List Datum) → kinds ≡ kinds_of definition → values_from (kinds_of definition) bytes ≡ Some values
    → ◌≡◌ {A = Option Cells} (Some (record { kinds = kinds; values = values })) (row_from definition bytes)
unfolding row_with
decoded_exactly definition bytes kinds values kinds_are h = (λ i. Some (record { kinds = kinds_are i; values = values })) ∙ sym (ap (option_map (row_with definition)) h)

pub not_decoded_exactly : (definition : Definition) (bytes : List ℕ) → values_from (kinds_of definition) bytes ≡ None → ◌≡◌ {A = Option Cells} None (row_from definition bytes)
unfolding row_with
not_decoded_exactly definition bytes h = sym (ap (option_map (row_with definition)) h)

-- a row is what its payload is read as
pub row_from-payload : (definition : Definition) (row : Cells) → IsRowOf definition row → row_from definition (payload_of row) ≡ Some row
row_from-payload definition row is =
    let kinds = sym is.kinds in
    sym (decoded_exactly definition (payload_of row) row.kinds row.values is.kinds ((λ i. values_from (kinds i) (payload_of row)) ∙ values-written row.kinds row.values is.values))

-- ---- the laws

all_bytes : (bytes : List ℕ) → All (λ byte. byte < 256) bytes → AreBytes bytes
all_bytes [] all = tt
all_bytes (b ∷ bytes) all = (All-head (λ byte. byte < 256) b bytes all, all_bytes bytes (All-tail (λ byte. byte < 256) b bytes all))

pub payload_is_read : (definition : Definition) (bytes : List ℕ) → All (λ byte. byte < 256) bytes → (row : Cells) → (row_from definition bytes ≡ Some row) ↔ (IsRowOf definition row × (bytes ≡ payload_of row))
payload_is_read definition bytes all row = by (values_from (kinds_of definition) bytes) refl
  where
    by : (found : Option (List Datum)) → values_from (kinds_of definition) bytes ≡ found
        → (option_map (λ values. record { kinds = kinds_of definition; values = values }) found ≡ Some row) ↔ (IsRowOf definition row × (bytes ≡ payload_of row))
    by None h = not_decoded definition bytes row h
    by (Some values) h = decoded definition bytes (kinds_of definition) values row (all_bytes bytes all) refl h

pub one_row : (definition : Definition) (one other : Cells) → IsRowOf definition one → IsRowOf definition other → payload_of one ≡ payload_of other → one ≡ other
one_row definition one other is and same = some_is (sym (row_from-payload definition one is) ∙ ap (row_from definition) same ∙ row_from-payload definition other and)

-- ---- a loop that writes fields

module _ (kinds : List Kind) (values : List Value) (i : ℕ) (left : AllZip Holds (drop i kinds) (map datum_of (drop i values))) (within : i < length kinds) where
  -- a value is left for the type that is left
  pub paired : i < length values
  paired = omega (arith, AllZip-long Holds (drop i kinds) (map datum_of (drop i values)) left, length-drop i kinds, length-drop i values, length-map (drop i values) datum_of)

  pub held_here : (kind : Kind) (value : Value) → kind ≡ get_or kinds i kind → value ≡ get_or values i value → Holds kind (datum_of value)
  held_here kind value kind_is value_is =
      let ks : drop i kinds ≡ kind ∷ drop (i + 1) kinds = drop_more kinds i kind within ∙ ap (λ k. k ∷ drop (i + 1) kinds) (sym kind_is) in
      let vs : drop i values ≡ value ∷ drop (i + 1) values = drop_more values i value paired ∙ ap (λ v. v ∷ drop (i + 1) values) (sym value_is) in
      (subst (λ xs. AllZip Holds (kind ∷ drop (i + 1) kinds) (map datum_of xs)) vs (subst (λ xs. AllZip Holds xs (map datum_of (drop i values))) ks left)).0

-- with nothing left to write, all is written
pub all_written : (out all : List ℕ) (at : ℕ) (kinds : List Kind) (values : List Datum) → kinds ≡ [] → at + size_of_all kinds ≡ length out → take at out ++ bytes_of kinds values ≡ all → out ≡ all
all_written out all at kinds values none room written =
    let end : at + 0 ≡ length out = ap (λ k. at + size_of_all k) (sym none) ∙ room in
    let whole : length out ≤ at = omega (arith, end) in
    sym (take_all at out whole) ∙ sym (append-nil (take at out)) ∙ ap (λ k. take at out ++ bytes_of k values) (sym none) ∙ written
