-- Texts in which no byte is blank.
use Rattle.std.proofs.Common.{◌≡◌, refl, ℕ, Bool, true, false, if◌then◌else◌, List, [], ◌∷◌, ◌++◌, Some, None, ◌∙◌, arith}
use Rattle.std.specs.List.{list_all}
use Rattle.std.proofs.lemmas.Bool.{and_parts, and_from}
use Rattle.std.proofs.lemmas.Bool.Decides.{nat_tests}
use Rattle.std.proofs.lemmas.List.Folds.{list_all-append}
use Rattle.trace_lex.specs.Decimals.{is_digit, value_after, decimal_number}
use Rattle.trace_trigger.specs.Frames.{is_unblank}

abbrev pub IsUnblank : List ℕ → Type 0
IsUnblank text = list_all is_unblank text ≡ true

pub both_unblank : (front rest : List ℕ) → IsUnblank front → IsUnblank rest → IsUnblank (front ++ rest)
both_unblank front rest e f = list_all-append is_unblank front rest ∙ and_from (list_all is_unblank front) (list_all is_unblank rest) e f

pub weaker_all : (p q : ℕ → Bool) → ((b : ℕ) → p b ≡ true → q b ≡ true) → (bs : List ℕ) → list_all p bs ≡ true → list_all q bs ≡ true
weaker_all p q f [] e = refl
weaker_all p q f (b ∷ bs) e = let parts = and_parts (p b) (list_all p bs) e in and_from (q b) (list_all q bs) (f b parts.0) (weaker_all p q f bs parts.1)

digit_unblank : (b : ℕ) → is_digit b ≡ true → is_unblank b ≡ true
digit_unblank b is = grind (arith, nat_tests)

pub number_unblank : (digits : List ℕ) (n : ℕ) → decimal_number digits ≡ Some n → IsUnblank digits
number_unblank [] n is = absurd (cc)
number_unblank (d ∷ ds) n is = by (list_all is_digit (d ∷ ds)) refl is
  where
    by : (b : Bool) → list_all is_digit (d ∷ ds) ≡ b → (if b then Some (value_after 0 (d ∷ ds)) else None) ≡ Some n → IsUnblank (d ∷ ds)
    by false e h = absurd (cc)
    by true e h = weaker_all is_digit is_unblank digit_unblank (d ∷ ds) e
