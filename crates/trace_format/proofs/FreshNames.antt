-- However many names there are, below 2^64, there is one more.
use Rattle.std.proofs.Common.{◌≡◌, ℕ, zero, suc, ◌+◌, ◌*◌, ◌^◌, ◌<◌, ◌≤◌, Bool, true, false, ◌&&◌, ◌||◌, ◌==◌, if◌then◌else◌, List, [], ◌∷◌, length, map, bytes_eq, codes, refl, sym, ap, ◌∙◌, ⊎_elim, arith, pow-suc}
use Rattle.std.specs.List.{list_all}
use Rattle.std.proofs.lemmas.Bool.{cases_lt, or_parts, or_from, or_left, and_from, and_parts, le-leb, false_from_ne_true}
use Rattle.std.proofs.lemmas.List.{length-map}
use Rattle.std.proofs.lemmas.Slice.Eq.{bytes_eq-Decides}
use Rattle.std.proofs.lemmas.Bool.Decides.{nat_tests}
use Rattle.trace_format.specs.declared.event.Field.{Field}
use Rattle.trace_lex.specs.Names.{is_letter, is_name_byte, is_name}
use Rattle.trace_format.specs.Definitions.{has_field, is_reserved}

abbrev is_among : List ℕ → List (List ℕ) → Bool
is_among name [] = false
is_among name (other ∷ others) = bytes_eq name other || is_among name others

-- what stands behind the letter x in the names that begin with it
abbrev tails : ℕ → List (List ℕ) → List (List ℕ)
tails x [] = []
tails x ([] ∷ names) = tails x names
tails x ((b ∷ bs) ∷ names) = if x == b then bs ∷ tails x names else tails x names

-- 1 where two letters are one
abbrev one_if : ℕ → ℕ → ℕ
one_if x b = if x == b then 1 else 0

length-tails : (x b : ℕ) (bs : List ℕ) (names : List (List ℕ)) → length (tails x ((b ∷ bs) ∷ names)) ≡ one_if x b + length (tails x names)
length-tails x b bs names = by (x == b)
  where
    by : (t : Bool) → length (if t then bs ∷ tails x names else tails x names) ≡ (if t then 1 else 0) + length (tails x names)
    by true = omega arith
    by false = omega arith

one_at_most : (b : ℕ) → one_if 97 b + (one_if 98 b + (one_if 99 b + one_if 100 b)) ≤ 1
one_at_most b = grind (arith, nat_tests)

-- a name begins with one letter at most
sum-tails : (names : List (List ℕ)) → length (tails 97 names) + (length (tails 98 names) + (length (tails 99 names) + length (tails 100 names))) ≤ length names
sum-tails [] = omega arith
sum-tails ([] ∷ names) = omega (arith, sum-tails names)
sum-tails ((b ∷ bs) ∷ names) = omega (arith, sum-tails names, one_at_most b, length-tails 97 b bs names, length-tails 98 b bs names, length-tails 99 b bs names, length-tails 100 b bs names)

-- a letter before a name that is no tail is a new name
new_before : (x : ℕ) (name : List ℕ) (names : List (List ℕ)) → is_among name (tails x names) ≡ false → is_among (x ∷ name) names ≡ false
new_before x name [] h = refl
new_before x name ([] ∷ names) h = new_before x name names h
new_before x name ((b ∷ bs) ∷ names) h = by (x == b) h (new_before x name names)
  where
    by : (t : Bool) → is_among name (if t then bs ∷ tails x names else tails x names) ≡ false → (is_among name (tails x names) ≡ false → is_among (x ∷ name) names ≡ false) → ((t && bytes_eq name bs) || is_among (x ∷ name) names) ≡ false
    by true h' others = or_from _ _ (or_parts _ _ h').0 (others (or_parts _ _ h').1)
    by false h' others = others h'

-- a name of n letters that is none of the names
record IsNew (n : ℕ) (names : List (List ℕ)) : Type 0 where
  name : List ℕ
  size : length name ≡ n
  letters : list_all is_letter name ≡ true
  free : is_among name names ≡ false

longer : (x n : ℕ) (names : List (List ℕ)) → is_letter x ≡ true → IsNew n (tails x names) → IsNew (suc n) names
longer x n names letter short = record {
  name = x ∷ short.name;
  size = ap suc short.size;
  letters = (λ i. letter i && short.letters i);
  free = new_before x short.name names short.free;
}

new_name : (n : ℕ) (names : List (List ℕ)) → length names < 4 ^ n → IsNew n names
new_name zero [] few = record { name = []; size = refl; letters = refl; free = refl }
new_name zero (name ∷ names) few = absurd (omega arith)
new_name (suc n) names few =
    let power : 4 ^ suc n ≡ 4 ^ n * 4 = pow-suc 4 n in
    let sum = sum-tails names in
    ⊎_elim (λ a. longer 97 n names refl (new_name n (tails 97 names) a))
    (λ no_a. ⊎_elim (λ b. longer 98 n names refl (new_name n (tails 98 names) b))
    (λ no_b. ⊎_elim (λ c. longer 99 n names refl (new_name n (tails 99 names) c))
    (λ no_c. longer 100 n names refl (new_name n (tails 100 names) (omega (arith, power, sum, no_a, no_b, no_c))))
    (cases_lt (length (tails 99 names)) (4 ^ n)))
    (cases_lt (length (tails 98 names)) (4 ^ n)))
    (cases_lt (length (tails 97 names)) (4 ^ n))

name_bytes : (name : List ℕ) → list_all is_letter name ≡ true → list_all is_name_byte name ≡ true
name_bytes [] h = refl
name_bytes (b ∷ bs) h = and_from _ _ (or_left (is_letter b) _ (and_parts _ _ h).0) (name_bytes bs (and_parts _ _ h).1)

is_name-letters : (name : List ℕ) → length name ≡ 32 → list_all is_letter name ≡ true → is_name name ≡ true
is_name-letters [] size letters = absurd (omega (arith, size))
is_name-letters (b ∷ bs) size letters = and_from _ _ (and_from _ _ (let short : length (b ∷ bs) ≤ 32 = omega (arith, size) in le-leb _ _ short) (and_parts _ _ letters).0) (name_bytes bs (and_parts _ _ letters).1)

-- texts of two lengths differ
differs : (name text : List ℕ) → (length name ≡ length text → ⊥) → bytes_eq name text ≡ false
differs name text apart = false_from_ne_true _ (λ same. apart (ap length ((bytes_eq-Decides name text).0 same)))

has_field_is : (fields : List Field) (name : List ℕ) → is_among name (map (λ (f : Field). f.name) fields) ≡ has_field fields name
has_field_is [] name = refl
has_field_is (field ∷ fields) name = ap (λ b. bytes_eq name field.name || b) (has_field_is fields name)

-- a name for one more field
pub record IsOpenName (fields : List Field) : Type 0 where
  pub name : List ℕ
  pub named : is_name name ≡ true
  pub free : is_reserved name ≡ false
  pub new : has_field fields name ≡ false

pub open_name : (fields : List Field) → length fields < 2 ^ 64 → IsOpenName fields
open_name fields few =
    let fresh = new_name 32 (map (λ (f : Field). f.name) fields) (rw length-map few) in
    record {
      name = fresh.name;
      named = is_name-letters fresh.name fresh.size fresh.letters;
      free = or_from _ _ (or_from _ _ (differs fresh.name (codes "common_pid") (λ e. absurd (omega (arith, e, fresh.size)))) (differs fresh.name (codes "common_cpu") (λ e. absurd (omega (arith, e, fresh.size))))) (differs fresh.name (codes "hitcount") (λ e. absurd (omega (arith, e, fresh.size))));
      new = sym (has_field_is fields fresh.name) ∙ fresh.free;
    }
