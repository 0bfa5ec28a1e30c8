-- Numbers that are written without a sign.
use Rattle.std.proofs.Common.{◌≡◌, ℕ, ◌<◌, length, get_or, arith, pos, ◌^◌, Bool, true, false, ◌&&◌, ◌==◌, int_le, if◌then◌else◌, List, [], ◌∷◌, Option, None, Some, option_map, option_and_then, refl, sym, ap, ◌∙◌}
use Rattle.std.proofs.lemmas.Bool.{cond-false}
use Rattle.std.proofs.lemmas.Bool.Decides.{nat_tests}
use Rattle.trace_lex.specs.Numbers.{magnitude_of, below}
use Rattle.trace_format.specs.declared.kind.NumberType.{NumberType}
use Rattle.trace_format.specs.declared.kind.NumberType.TheVariants.{U8, U16, U32, U64, S8, S16, S32, S64, Int, PidT, UnsignedInt, Long, UnsignedLong}
use Rattle.trace_format.specs.declared.kind.Kind.TheVariants.{Number}
use Rattle.trace_format.specs.Kinds.{least, greatest}
use Rattle.trace_format.specs.Cells.{Whole}
use Rattle.trace_format.specs.Rows.{number_in, value_of}
use Rattle.trace_format.specs.private.NumberPatterns.{magnitude_in}

-- no type begins above 0
zero_low : (n : ℕ) → int_le (pos 0) (pos n) ≡ true
zero_low n = grind (arith, nat_tests)

pub least_low : (t : NumberType) (n : ℕ) → int_le (least t) (pos n) ≡ true
least_low U8 n = zero_low n
least_low U16 n = zero_low n
least_low U32 n = zero_low n
least_low U64 n = zero_low n
least_low S8 n = refl
least_low S16 n = refl
least_low S32 n = refl
least_low S64 n = refl
least_low Int n = refl
least_low PidT n = refl
least_low UnsignedInt n = zero_low n
least_low Long n = refl
least_low UnsignedLong n = zero_low n

-- without a `-` it is the number itself
plain_value : (t : NumberType) (b : ℕ) (bs : List ℕ) → (b == 45) ≡ false
    → option_map (λ n. Whole (pos n)) (magnitude_in t (b ∷ bs)) ≡ value_of (Number t) (b ∷ bs)
unfolding value_of
plain_value t b bs plain = by (below (2 ^ 64) (magnitude_of (b ∷ bs)))
    ∙ ap (λ number. option_and_then (number_in (least t) (greatest t)) number) (sym (cond-false _ _ _ plain))
  where
    held : (n : ℕ) (is : Bool) → option_map (λ k. Whole (pos k)) (if is then Some n else None) ≡ (if is then Some (Whole (pos n)) else None)
    held n true = refl
    held n false = refl

    by : (value : Option ℕ)
        → option_map (λ k. Whole (pos k)) (option_and_then (λ n. if int_le (pos n) (greatest t) then Some n else None) value)
        ≡ option_and_then (number_in (least t) (greatest t)) (option_map (λ n. pos n) value)
    by None = refl
    by (Some n) =
        let within = int_le (pos n) (greatest t) in
        held n within ∙ sym (ap (λ low. if low && within then Some (Whole (pos n)) else None) (least_low t n))

pub magnitude_value : (t : NumberType) (text : List ℕ) (n : ℕ) → (0 < length text → get_or text 0 0 ≡ 45 → ⊥) → magnitude_in t text ≡ Some n
    → value_of (Number t) text ≡ Some (Whole (pos n))
unfolding value_of
magnitude_value t [] n plain is = absurd (cc)
magnitude_value t (b ∷ bs) n plain is =
    sym (plain_value t b bs (grind (arith, nat_tests, plain))) ∙ ap (option_map (λ k. Whole (pos k))) is
