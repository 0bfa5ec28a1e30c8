-- What a suffix is read as is what it is written as.
use Rattle.std.proofs.Common.{◌≡◌, refl, ℕ, ◌-◌, ◌^◌, Bool, true, false, nat_le, nat_lt, if◌then◌else◌, bytes_eq, codes, List, [], ◌++◌, take, drop, Option, Some, None, ap, sym, ◌∙◌, subst, arith, lt-ltb, ltb-true}
use Rattle.std.specs.List.{list_all}
use Rattle.std.proofs.lemmas.Bool.{le-leb, leb-true}
use Rattle.std.proofs.lemmas.List.{take-append-drop}
use Rattle.std.proofs.lemmas.Slice.Eq.{bytes_eq-Decides}
use Rattle.trace_lex.specs.Decimals.{decimal_number, has_leading_zero, up_to}
use Rattle.trace_trigger.specs.Frames.{is_unblank}
use Rattle.trace_format.specs.declared.modifier.Modifier.{Modifier}
use Rattle.trace_format.specs.declared.modifier.Modifier.TheVariants.{Plain, Hex, Log2, Buckets}
use Rattle.trace_format.specs.Modifiers.{IsBucketSize, IsSuffix, buckets_from, buckets_of, modifier_of}
use Rattle.trace_trigger.proofs.UnblankLemmas.{IsUnblank, both_unblank, number_unblank}

-- ---- what is written is read

size_read : (digits : List ℕ) (size : ℕ) → IsBucketSize digits size → buckets_of digits ≡ Some (Buckets size)
size_read digits size is =
    ap (λ (b : Bool). if b then None else buckets_from (up_to (2 ^ 32 - 1) (decimal_number digits))) is.plain
    ∙ ap (λ (o : Option ℕ). buckets_from (up_to (2 ^ 32 - 1) o)) is.number
    ∙ ap (λ (b : Bool). buckets_from (if b then Some size else None)) (le-leb size (2 ^ 32 - 1) is.most)
    ∙ ap (λ (b : Bool). if b then Some (Buckets size) else None) (lt-ltb 0 size (omega (arith, is.least)))

pub suffix_read : (modifier : Modifier) (suffix : List ℕ) → IsSuffix modifier suffix → modifier_of suffix ≡ Some modifier
suffix_read Plain suffix is = ap modifier_of is
suffix_read Hex suffix is = ap modifier_of is
suffix_read Log2 suffix is = ap modifier_of is
suffix_read (Buckets size) suffix is = ap modifier_of is.1 ∙ size_read is.0 size is.2

-- ---- and what is read is written

size_written : (digits : List ℕ) (modifier : Modifier) → buckets_of digits ≡ Some modifier → (size : ℕ) × (modifier ≡ Buckets size) × IsBucketSize digits size
size_written digits modifier e = by (has_leading_zero digits) (decimal_number digits) refl refl e
  where
    of_size : (size : ℕ) → has_leading_zero digits ≡ false → decimal_number digits ≡ Some size → (within some : Bool) → nat_le size (2 ^ 32 - 1) ≡ within → nat_lt 0 size ≡ some
        → buckets_from (if within then Some size else None) ≡ Some modifier → (if some then Some (Buckets size) else None) ≡ (if within then Some modifier else None) → (n : ℕ) × (modifier ≡ Buckets n) × IsBucketSize digits n
    of_size size f g true true h k e same =
        let it : modifier ≡ Buckets size = cc in
        (size, it, record { number = g; plain = f; least = omega (arith, ltb-true 0 size k); most = leb-true size (2 ^ 32 - 1) h })
    of_size size f g true false h k e same = absurd (cc)
    of_size size f g false some h k e same = absurd (cc)

    with_size : (size : ℕ) → has_leading_zero digits ≡ false → decimal_number digits ≡ Some size → (within : Bool) → nat_le size (2 ^ 32 - 1) ≡ within
        → buckets_from (if within then Some size else None) ≡ Some modifier → (n : ℕ) × (modifier ≡ Buckets n) × IsBucketSize digits n
    with_size size f g true h e = of_size size f g true (nat_lt 0 size) h refl e e
    with_size size f g false h e = absurd (cc)

    by : (zeroed : Bool) (number : Option ℕ) → has_leading_zero digits ≡ zeroed → decimal_number digits ≡ number → (if zeroed then None else buckets_from (up_to (2 ^ 32 - 1) number)) ≡ Some modifier
        → (n : ℕ) × (modifier ≡ Buckets n) × IsBucketSize digits n
    by true number f g e = absurd (cc)
    by false None f g e = absurd (cc)
    by false (Some size) f g e = with_size size f g (nat_le size (2 ^ 32 - 1)) refl e

pub read_suffix : (suffix : List ℕ) (modifier : Modifier) → modifier_of suffix ≡ Some modifier → IsSuffix modifier suffix
read_suffix suffix modifier e = by (bytes_eq suffix []) (bytes_eq suffix (codes ".hex")) (bytes_eq suffix (codes ".log2")) (bytes_eq (take 9 suffix) (codes ".buckets=")) refl refl refl refl e
  where
    is : (m : Modifier) → m ≡ modifier → IsSuffix m suffix → IsSuffix modifier suffix
    is m same written = subst (λ (it : Modifier). IsSuffix it suffix) same written

    sized : bytes_eq (take 9 suffix) (codes ".buckets=") ≡ true → (size : ℕ) × (modifier ≡ Buckets size) × IsBucketSize (drop 9 suffix) size → IsSuffix modifier suffix
    sized f it =
        let head : take 9 suffix ≡ codes ".buckets=" = (bytes_eq-Decides (take 9 suffix) (codes ".buckets=")).0 f in
        is (Buckets it.0) (sym it.1) (drop 9 suffix, sym (take-append-drop 9 suffix) ∙ ap (λ (front : List ℕ). front ++ drop 9 suffix) head, it.2)

    by : (plain hex log2 buckets : Bool) → bytes_eq suffix [] ≡ plain → bytes_eq suffix (codes ".hex") ≡ hex → bytes_eq suffix (codes ".log2") ≡ log2 → bytes_eq (take 9 suffix) (codes ".buckets=") ≡ buckets
        → (if plain then Some Plain else if hex then Some Hex else if log2 then Some Log2 else if buckets then buckets_of (drop 9 suffix) else None) ≡ Some modifier → IsSuffix modifier suffix
    by true hex log2 buckets f g h k e = let same : Plain ≡ modifier = cc in is Plain same ((bytes_eq-Decides suffix []).0 f)
    by false true log2 buckets f g h k e = let same : Hex ≡ modifier = cc in is Hex same ((bytes_eq-Decides suffix (codes ".hex")).0 g)
    by false false true buckets f g h k e = let same : Log2 ≡ modifier = cc in is Log2 same ((bytes_eq-Decides suffix (codes ".log2")).0 h)
    by false false false true f g h k e = sized k (size_written (drop 9 suffix) modifier e)
    by false false false false f g h k e = absurd (cc)

-- a modifier is not plain exactly where there is something in its suffix
pub plain_suffix : (suffix : List ℕ) → suffix ≡ [] → modifier_of suffix ≡ Some Plain
plain_suffix suffix e = ap modifier_of e

-- ---- no byte of a suffix is blank

pub suffix_unblank : (modifier : Modifier) (suffix : List ℕ) → IsSuffix modifier suffix → IsUnblank suffix
suffix_unblank Plain suffix is = ap (list_all is_unblank) is
suffix_unblank Hex suffix is = ap (list_all is_unblank) is
suffix_unblank Log2 suffix is = ap (list_all is_unblank) is
suffix_unblank (Buckets size) suffix is = ap (list_all is_unblank) is.1 ∙ both_unblank (codes ".buckets=") is.0 refl (number_unblank is.0 size is.2.number)
