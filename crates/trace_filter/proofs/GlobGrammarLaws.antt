-- The parts that are found in a pattern byte by byte are those that its grammar gives.
use Rattle.std.proofs.Common.{◌≡◌, ◌≢◌, ℕ, zero, suc, ◌+◌, ◌≤◌, ◌<◌, ◌==◌, nat_lt, Bool, true, false, if◌then◌else◌, List, [], ◌∷◌, ◌++◌, length, map, take, drop, refl, sym, ap, ◌∙◌, ◌⊎◌, inl, inr, ◌↔◌, subst, arith, append_assoc, length-append}
use Rattle.std.specs.List.{prefix_len, flat_map, AllByRecursion}
use Rattle.std.proofs.lemmas.Bool.{cond-true, cond-false, eqb-true, lt-ltb}
use Rattle.std.proofs.Math.Seq.{take-append_seam, drop-append_seam}
use Rattle.trace_lex.specs.Prefixes.{is_not}
use Rattle.trace_filter.proofs.Ends.{differs, other, EndsAt, ends, end_len}
use Rattle.trace_filter.specs.Globs.{Element, OneByte, ReadElement, itself, class_from, class_piece, part_of, parts_from, parts_of}
use Rattle.trace_filter.specs.GlobGrammar.{GlobPiece, Star, Question, Bracketed, Plain, IsClass, class_text, BeginsClass, IsPieceBefore, piece_text, piece_part, IsPattern, IsWrittenGlob}

-- to skip bytes is to drop them
skipped : (n : ℕ) (bs : List ℕ) → parts_from n bs ≡ parts_from 0 (drop n bs)
skipped zero bs = refl
skipped (suc n) [] = refl
skipped (suc n) (b ∷ bs) = skipped n bs

-- ---- classes

abbrev class_part : Bool → ℕ → List ℕ → Element
class_part negated first others = OneByte (record { negated = negated; members = first ∷ others })

abbrev sized : Element → ℕ → ReadElement
sized part more = record { part = part; more = more }

from_read : (negated : Bool) (before first : ℕ) (others rest : List ℕ) → AllByRecursion (λ b. b ≢ 93) others
    → class_from negated before (first ∷ others ++ 93 ∷ rest) ≡ sized (class_part negated first others) (before + (length others + 2))
from_read negated before first others rest h =
    let bytes : List ℕ = others ++ 93 ∷ rest in
    let less : length others < length bytes = omega (arith, length-append others (93 ∷ rest)) in
    ap (λ n. if nat_lt n (length bytes) then sized (class_part negated first (take n bytes)) (before + (n + 2)) else itself 91) (end_len 93 others rest h)
    ∙ (cond-true (nat_lt (length others) (length bytes)) _ _ (lt-ltb (length others) (length bytes) less)
    ∙ ap (λ members. sized (class_part negated first members) (before + (length others + 2))) (take-append_seam others (93 ∷ rest)))

class_read : (negated : Bool) (first : ℕ) (others rest : List ℕ) → IsClass negated first others
    → class_piece (class_text negated first others ++ rest) ≡ sized (class_part negated first others) (length (class_text negated first others))
class_read true first others rest h =
    let size : 1 + (length others + 2) ≡ suc (suc (length (others ++ 93 ∷ []))) = omega (arith, length-append others (93 ∷ [])) in
    ap (λ bs. class_from true 1 (first ∷ bs)) (append_assoc others (93 ∷ []) rest) ∙ (from_read true 1 first others rest h ∙ ap (sized (class_part true first others)) size)
class_read false first others rest h =
    let size : 0 + (length others + 2) ≡ suc (length (others ++ 93 ∷ [])) = omega (arith, length-append others (93 ∷ [])) in
    cond-false (first == 33) _ _ (other first 33 h.0)
    ∙ (ap (λ bs. class_from false 0 (first ∷ bs)) (append_assoc others (93 ∷ []) rest) ∙ (from_read false 0 first others rest h.1 ∙ ap (sized (class_part false first others)) size))

from_ends : (negated : Bool) (before first : ℕ) (bs : List ℕ)
    → EndsAt 93 bs ⊎ (class_from negated before (first ∷ bs) ≡ itself 91)
from_ends negated before first bs = elim (ends 93 bs) [ inl h ↦ inl h | inr h ↦ inr (cond-false (nat_lt (prefix_len (is_not 93) bs) (length bs)) _ _ h) ]

-- a class begins, or a `[` before the bytes stands for itself
class_or_not : (bytes : List ℕ) → BeginsClass bytes ⊎ (class_piece bytes ≡ itself 91)
class_or_not [] = inr refl
class_or_not (b ∷ bs) = by (b == 33) refl bs
  where
    by : (t : Bool) → (b == 33) ≡ t → (bs : List ℕ) → BeginsClass (b ∷ bs) ⊎ (class_piece (b ∷ bs) ≡ itself 91)
    by true e [] = inr (cond-true (b == 33) _ _ e)
    by true e (c ∷ cs) =
        elim (from_ends true 1 c cs) [
          | inl h ↦ inl (record {
            negated = true;
            first = c;
            others = h.0;
            rest = h.1;
            lawful = h.2;
            text = ap (λ xs. 33 ∷ c ∷ xs) (append_assoc h.0 (93 ∷ []) h.1 ∙ h.3) ∙ ap (λ x. x ∷ c ∷ cs) (sym (eqb-true b 33 e));
          })
          | inr h ↦ inr (cond-true (b == 33) _ _ e ∙ h)
        ]
    by false e bs =
        elim (from_ends false 0 b bs) [
          | inl h ↦ inl (record {
            negated = false;
            first = b;
            others = h.0;
            rest = h.1;
            lawful = (differs b 33 e, h.2);
            text = ap (λ xs. b ∷ xs) (append_assoc h.0 (93 ∷ []) h.1 ∙ h.3);
          })
          | inr h ↦ inr (cond-false (b == 33) _ _ e ∙ h)
        ]

-- not both
class_not_itself : (bytes : List ℕ) → class_piece bytes ≡ itself 91 → BeginsClass bytes → ⊥
class_not_itself bytes e c = none c.negated c.first c.others (ap (λ (p : ReadElement). p.more) (sym (class_read c.negated c.first c.others c.rest c.lawful) ∙ (ap class_piece c.text ∙ e)))
  where
    none : (negated : Bool) (first : ℕ) (others : List ℕ) → length (class_text negated first others) ≡ 0 → ⊥
    none true first others h = omega (arith, h)
    none false first others h = omega (arith, h)

-- ---- what is written is read

part_led : (b : ℕ) (front rest : List ℕ) (part : Element) → part_of b (front ++ rest) ≡ sized part (length front) → parts_from 0 (b ∷ front ++ rest) ≡ part ∷ parts_from 0 rest
part_led b front rest part e =
    ap (λ (p : ReadElement). p.part ∷ parts_from p.more (front ++ rest)) e ∙ ap (λ ps. part ∷ ps) (skipped (length front) (front ++ rest) ∙ ap (parts_from 0) (drop-append_seam front rest))

plain_part : (b : ℕ) (rest : List ℕ) → IsPieceBefore rest (Plain b) → part_of b rest ≡ itself b
unfolding part_of
plain_part b rest h =
    cond-false (b == 42) _ _ (other b 42 h.0) ∙ (cond-false (b == 63) _ _ (other b 63 h.1) ∙ by (b == 91) refl)
  where
    by : (t : Bool) → (b == 91) ≡ t → (if b == 91 then class_piece rest else itself b) ≡ itself b
    by true e =
        let is : b ≡ 91 = eqb-true b 91 e in
        elim (class_or_not rest) [ inl c ↦ absurd (h.2 is c) | inr f ↦ cond-true (b == 91) _ _ e ∙ (f ∙ ap itself (sym is)) ]
    by false e = cond-false (b == 91) _ _ e

piece_read : (piece : GlobPiece) (rest : List ℕ) → IsPieceBefore rest piece → parts_from 0 (piece_text piece ++ rest) ≡ piece_part piece ∷ parts_from 0 rest
unfolding part_of
piece_read Star rest h = refl
piece_read Question rest h = refl
piece_read (Bracketed negated first others) rest h = part_led 91 (class_text negated first others) rest (class_part negated first others) (class_read negated first others rest h)
piece_read (Plain b) rest h = part_led b [] rest (piece_part (Plain b)) (plain_part b rest h)

pattern_read : (pieces : List GlobPiece) → IsPattern pieces → map piece_part pieces ≡ parts_of (flat_map piece_text pieces)
pattern_read [] h = refl
pattern_read (piece ∷ pieces) h = ap (λ ps. piece_part piece ∷ ps) (pattern_read pieces h.1) ∙ sym (piece_read piece (flat_map piece_text pieces) h.0)

-- ---- each pattern is written

first_piece : (b : ℕ) (bs : List ℕ) → (piece : GlobPiece) × (rest : List ℕ) × IsPieceBefore rest piece × (piece_text piece ++ rest ≡ b ∷ bs)
first_piece b bs = by (b == 42) (b == 63) (b == 91) refl refl refl
  where
    by : (s t u : Bool) → (b == 42) ≡ s → (b == 63) ≡ t → (b == 91) ≡ u → (piece : GlobPiece) × (rest : List ℕ) × IsPieceBefore rest piece × (piece_text piece ++ rest ≡ b ∷ bs)
    by true t u e f g = (Star, bs, tt, ap (λ x. x ∷ bs) (sym (eqb-true b 42 e)))
    by false true u e f g = (Question, bs, tt, ap (λ x. x ∷ bs) (sym (eqb-true b 63 f)))
    by false false true e f g =
        let is : 91 ≡ b = sym (eqb-true b 91 g) in
        elim (class_or_not bs) [
          | inl c ↦ (Bracketed c.negated c.first c.others, c.rest, c.lawful, ap (λ xs. 91 ∷ xs) c.text ∙ ap (λ x. x ∷ bs) is)
          | inr n ↦ (Plain b, bs, (differs b 42 e, differs b 63 f, (λ _. class_not_itself bs n)), refl)
        ]
    by false false false e f g = (Plain b, bs, (differs b 42 e, differs b 63 f, (λ h. absurd (differs b 91 g h))), refl)

has_a_byte : (piece : GlobPiece) → 1 ≤ length (piece_text piece)
has_a_byte Star = omega arith
has_a_byte Question = omega arith
has_a_byte (Bracketed negated first others) = omega arith
has_a_byte (Plain b) = omega arith

-- the pieces of a pattern of so many bytes at most
spelled : (limit : ℕ) (pattern : List ℕ) → length pattern ≤ limit → (pieces : List GlobPiece) × IsPattern pieces × (flat_map piece_text pieces ≡ pattern)
spelled limit [] h = ([], tt, refl)
spelled zero (b ∷ bs) h = absurd (omega (arith, h))
spelled (suc limit) (b ∷ bs) h =
    let p = first_piece b bs in
    let size : length (piece_text p.0) + length p.1 ≡ suc (length bs) = sym (length-append (piece_text p.0) p.1) ∙ ap length p.3 in
    let others = spelled limit p.1 (omega (arith, h, size, has_a_byte p.0)) in
    (p.0 ∷ others.0, (subst (λ bytes. IsPieceBefore bytes p.0) (sym others.2) p.2, others.1), ap (λ bytes. piece_text p.0 ++ bytes) others.2 ∙ p.3)

pub globs_are_as_written : (pattern : List ℕ) (parts : List Element) → IsWrittenGlob pattern parts ↔ (parts ≡ parts_of pattern)
globs_are_as_written pattern parts = (
  (λ w. sym w.meaning ∙ (pattern_read w.pieces w.lawful ∙ ap parts_of w.text)),
  (λ e.
      let s = spelled (length pattern) pattern (omega arith) in
      record { pieces = s.0; lawful = s.1; text = s.2; meaning = pattern_read s.0 s.1 ∙ (ap parts_of s.2 ∙ sym e) }),
)
