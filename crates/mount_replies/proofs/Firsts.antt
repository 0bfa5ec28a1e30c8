-- The first element that passes.
use Rattle.std.proofs.Common.{◌≡◌, ℕ, ◌<◌, ◌≤◌, ◌+◌, zero, suc, Bool, true, false, cond, not, nat_lt, List, [], ◌∷◌, length, take, get_or, Some, None, refl, sym, ap, ◌∙◌, arith}
use Rattle.std.proofs.lemmas.Bool.Decides.{nat_tests}
use Rattle.std.proofs.lemmas.Bool.{lt-ltb}
use Rattle.std.proofs.lemmas.List.{take_all}
use Rattle.std.specs.List.{list_any, position, position_or_len, slice_get}

first-len : {A : Type 0} (p : A → Bool) (xs : List A) (i : ℕ) (x : A) → i < length xs → p (get_or xs i x) ≡ true → list_any p (take i xs) ≡ false
    → position_or_len p xs ≡ i
first-len p [] i x within passes none = absurd (omega (arith, within))
first-len p (y ∷ ys) zero x within passes none = rw passes refl
first-len p (y ∷ ys) (suc i) x within passes none =
    let no : p y ≡ false = grind (arith, none) in
    let rest : list_any p (take i ys) ≡ false = grind (arith, none) in
    let same : position_or_len p ys ≡ i = first-len p ys i x (omega (arith, within)) passes rest in
    rw no (omega (arith, same))

pub first-at : {A : Type 0} (p : A → Bool) (xs : List A) (i : ℕ) (x : A) → i < length xs → p (get_or xs i x) ≡ true → list_any p (take i xs) ≡ false
    → position p xs ≡ Some i
first-at p xs i x within passes none =
    let same : position_or_len p xs ≡ i = first-len p xs i x within passes none in rw (same, lt-ltb i (length xs) within) refl

no-len : {A : Type 0} (p : A → Bool) (xs : List A) → list_any p xs ≡ false → position_or_len p xs ≡ length xs
no-len p [] none = refl
no-len p (y ∷ ys) none =
    let no : p y ≡ false = grind (arith, none) in
    let rest : list_any p ys ≡ false = grind (arith, none) in
    let same : position_or_len p ys ≡ length ys = no-len p ys rest in
    rw no (omega (arith, same))

pub no-first : {A : Type 0} (p : A → Bool) (xs : List A) → list_any p xs ≡ false → position p xs ≡ None
no-first p xs none =
    let same : position_or_len p xs ≡ length xs = no-len p xs none in
    let not_less : nat_lt (length xs) (length xs) ≡ false = grind (arith, nat_tests) in
    rw (same, not_less) refl

-- one more does not pass
pub one-more : {A : Type 0} (p : A → Bool) (xs : List A) (i : ℕ) (x : A) → i < length xs → p (get_or xs i x) ≡ false → list_any p (take i xs) ≡ false
    → list_any p (take (i + 1) xs) ≡ false
one-more p [] i x within fails none = absurd (omega (arith, within))
one-more p (y ∷ ys) zero x within fails none = rw fails refl
one-more p (y ∷ ys) (suc i) x within fails none =
    let first : p y ≡ false = grind (arith, none) in
    let rest : list_any p (take i ys) ≡ false = grind (arith, none) in
    let next : suc i + 1 ≡ suc (i + 1) = omega arith in
    let more : list_any p (take (i + 1) ys) ≡ false = one-more p ys i x (omega (arith, within)) fails rest in
    rw (next, first, more) refl

-- ---- what the first one says of the others

len-below : {A : Type 0} (p : A → Bool) (xs : List A) (i : ℕ) (x : A) → slice_get xs i ≡ Some x → p x ≡ true
    → (position_or_len p xs ≤ i) × (i < length xs)
len-below p [] zero x is passes = absurd (cc)
len-below p [] (suc i) x is passes = absurd (cc)
len-below p (y ∷ ys) zero x is passes =
    let same : y ≡ x = cc in
    let first : p y ≡ true = ap p same ∙ passes in
    rw first (omega arith, omega arith)
len-below p (y ∷ ys) (suc i) x is passes =
    let rest = len-below p ys i x is passes in by (p y) rest.0 rest.1
  where
    by : (t : Bool) → position_or_len p ys ≤ i → i < length ys → (cond (not t) (1 + position_or_len p ys) 0 ≤ suc i) × (suc i < suc (length ys))
    by true low within = (omega arith, omega (arith, within))
    by false low within = (omega (arith, low), omega (arith, within))

-- if none is first, none passes
pub none-passes : {A : Type 0} (p : A → Bool) (xs : List A) (i : ℕ) (x : A) → position p xs ≡ None → slice_get xs i ≡ Some x → p x ≡ false
none-passes p xs i x none is = by (p x) refl
  where
    by : (t : Bool) → p x ≡ t → t ≡ false
    by false e = refl
    by true e =
        let below = len-below p xs i x is e in
        let less : nat_lt (position_or_len p xs) (length xs) ≡ true = lt-ltb (position_or_len p xs) (length xs) (omega (arith, below.0, below.1)) in
        absurd (let wrong : Some (position_or_len p xs) ≡ None = rw less at none in cc)

-- none before the first one does
pub none-before : {A : Type 0} (p : A → Bool) (xs : List A) (index i : ℕ) (x : A) → position p xs ≡ Some index → i < index → slice_get xs i ≡ Some x
    → p x ≡ false
none-before p xs index i x first before is = by (p x) refl
  where
    by : (t : Bool) → p x ≡ t → t ≡ false
    by false e = refl
    by true e =
        let below = len-below p xs i x is e in
        let less : nat_lt (position_or_len p xs) (length xs) ≡ true = lt-ltb (position_or_len p xs) (length xs) (omega (arith, below.0, below.1)) in
        let same : position_or_len p xs ≡ index = let e : Some (position_or_len p xs) ≡ Some index = rw less at first in cc in
        absurd (omega (arith, same, before, below.0))

-- none passes in a whole list
pub none-in-all : {A : Type 0} (p : A → Bool) (xs : List A) (i : ℕ) → length xs ≤ i → list_any p (take i xs) ≡ false → position p xs ≡ None
none-in-all p xs i end none = no-first p xs (ap (λ (l : List _). list_any p l) (sym (take_all i xs end)) ∙ none)
