-- Lists that are searched.
use Rattle.std.proofs.Common.{◌≡◌, ℕ, eqb, Bool, true, false, not, ◌&&◌, cond, List, [], ◌∷◌, ◌++◌, map, Some, None, is_some, refl, subst}
use Rattle.std.specs.List.{AllByRecursion, IsDistinct, filter, find, list_all}
use Rattle.std.specs.Str.{bytes_eq}
use Rattle.std.proofs.lemmas.Bool.{and_parts, eq-eqb, false≢true, not-true}
use Rattle.std.proofs.lemmas.Map.Keys.{IsDistinct-head, IsDistinct-tail}

-- what is found is one of the list
pub found_one : {X : Type 0} (Q : X → Type 0) (test : X → Bool) (xs : List X) (x : X) → AllByRecursion Q xs → find test xs ≡ Some x → Q x
found_one Q test [] x all is = absurd (cc)
found_one Q test (y ∷ ys) x all is = by (test y) (found_one Q test ys x all.1) is
  where
    by : (b : Bool) → (find test ys ≡ Some x → Q x) → cond b (Some y) (find test ys) ≡ Some x → Q x
    by true rest e = let same : y ≡ x = cc in subst Q same all.0
    by false rest e = rest e

-- and passes the test
pub found_passes : {X : Type 0} (test : X → Bool) (xs : List X) (x : X) → find test xs ≡ Some x → test x ≡ true
found_passes test [] x is = absurd (cc)
found_passes test (y ∷ ys) x is = by (test y) refl (found_passes test ys x) is
  where
    by : (b : Bool) → test y ≡ b → (find test ys ≡ Some x → test x ≡ true) → cond b (Some y) (find test ys) ≡ Some x → test x ≡ true
    by true at rest e = let same : y ≡ x = cc in subst (λ z. test z ≡ true) same at
    by false at rest e = rest e

pub all-append : {X : Type 0} (Q : X → Type 0) (xs ys : List X) → AllByRecursion Q xs → AllByRecursion Q ys → AllByRecursion Q (xs ++ ys)
all-append Q [] ys first second = second
all-append Q (x ∷ xs) ys first second = (first.0, all-append Q xs ys first.1 second)

pub all-map : {X Y : Type 0} (Q : Y → Type 0) (f : X → Y) (xs : List X) → AllByRecursion (λ x. Q (f x)) xs → AllByRecursion Q (map f xs)
all-map Q f [] all = tt
all-map Q f (x ∷ xs) all = (all.0, all-map Q f xs all.1)

pub all-filter : {X : Type 0} (Q : X → Type 0) (test : X → Bool) (xs : List X) → AllByRecursion Q xs → AllByRecursion Q (filter test xs)
all-filter Q test [] all = tt
all-filter Q test (x ∷ xs) all = by (test x) (all-filter Q test xs all.1)
  where
    by : (b : Bool) → AllByRecursion Q (filter test xs) → AllByRecursion Q (cond b (x ∷ filter test xs) (filter test xs))
    by true rest = (all.0, rest)
    by false rest = rest

pub all-weaker : {X : Type 0} (P Q : X → Type 0) (xs : List X) → ((x : X) → P x → Q x) → AllByRecursion P xs → AllByRecursion Q xs
all-weaker P Q [] weaker all = tt
all-weaker P Q (x ∷ xs) weaker all = (weaker x all.0, all-weaker P Q xs weaker all.1)

-- each of a list is found by its number, maybe another of the same number
pub found_each : {X : Type 0} (key : X → ℕ) (all xs : List X)
    → ((k : ℕ) → is_some (find (λ y. eqb (key y) k) xs) ≡ true → is_some (find (λ y. eqb (key y) k) all) ≡ true)
    → AllByRecursion (λ x. is_some (find (λ y. eqb (key y) (key x)) all) ≡ true) xs
found_each key all [] sub = tt
found_each {X} key all (x ∷ xs) sub =
    (sub (key x) (first (eqb (key x) (key x)) (eq-eqb (key x) (key x) refl)), found_each key all xs (λ k found. sub k (later (eqb (key x) k) k found)))
  where
    first : (b : Bool) → b ≡ true → is_some (cond b (Some x) (find (λ y. eqb (key y) (key x)) xs)) ≡ true
    first true is = refl
    first false is = absurd (false≢true is)

    later : (b : Bool) (k : ℕ) → is_some (find (λ y. eqb (key y) k) xs) ≡ true → is_some (cond b (Some x) (find (λ y. eqb (key y) k) xs)) ≡ true
    later true k found = refl
    later false k found = found

-- nothing is found in a filtered list that is not in the list
pub none-filter : {X : Type 0} (test p : X → Bool) (xs : List X) → find test xs ≡ None → find test (filter p xs) ≡ None
none-filter test p [] none = refl
none-filter {X} test p (x ∷ xs) none = by (test x) refl (none-filter test p xs) none
  where
    keep : (b : Bool) → test x ≡ false → find test (filter p xs) ≡ None → find test (cond b (x ∷ filter p xs) (filter p xs)) ≡ None
    keep true at rest = rw at rest
    keep false at rest = rest

    by : (b : Bool) → test x ≡ b → (find test xs ≡ None → find test (filter p xs) ≡ None) → cond b (Some x) (find test xs) ≡ None → find test (cond (p x) (x ∷ filter p xs) (filter p xs)) ≡ None
    by true at rest e = absurd (cc)
    by false at rest e = keep (p x) at (rest e)

-- ---- lists in which no two have one key

pub all-both : {X : Type 0} (P Q : X → Type 0) (xs : List X) → AllByRecursion P xs → AllByRecursion Q xs → AllByRecursion (λ x. P x × Q x) xs
all-both P Q [] first second = tt
all-both P Q (x ∷ xs) first second = ((first.0, second.0), all-both P Q xs first.1 second.1)

pub all-unmapped : {X Y : Type 0} (Q : Y → Type 0) (f : X → Y) (xs : List X) → AllByRecursion Q (map f xs) → AllByRecursion (λ x. Q (f x)) xs
all-unmapped Q f [] all = tt
all-unmapped Q f (x ∷ xs) all = (all.0, all-unmapped Q f xs all.1)

-- each is found by its key
pub self_found : {X K : Type 0} (same : K → K → Bool) (key : X → K) (xs : List X) → ((k : K) → same k k ≡ true)
    → IsDistinct same (map key xs)
    → AllByRecursion (λ x. find (λ y. same (key y) (key x)) xs ≡ Some x) xs
self_found same key [] itself distinct = tt
self_found {X} same key (x ∷ xs) itself distinct = (
  rw (itself (key x)) refl,
  all-weaker (λ y. (same (key x) (key y) ≡ false) × (find (λ z. same (key z) (key y)) xs ≡ Some y))
      (λ y. find (λ z. same (key z) (key y)) (x ∷ xs) ≡ Some y) xs
      (λ y both. rw both.0 both.1)
      (all-both (λ y. same (key x) (key y) ≡ false) (λ y. find (λ z. same (key z) (key y)) xs ≡ Some y) xs
      (all-unmapped (λ k. same (key x) k ≡ false) key xs (IsDistinct-head same (key x) (map key xs) distinct))
      (self_found same key xs itself (IsDistinct-tail same (key x) (map key xs) distinct))),
)

-- whether no two of some names are the same
abbrev pub are_apart : List (List ℕ) → Bool
are_apart [] = true
are_apart (name ∷ names) = list_all (λ other. not (bytes_eq name other)) names && are_apart names

none_same : (name : List ℕ) (names : List (List ℕ)) → list_all (λ other. not (bytes_eq name other)) names ≡ true
    → AllByRecursion (λ other. bytes_eq name other ≡ false) names
none_same name [] apart = tt
none_same name (other ∷ names) apart =
    let both = and_parts (not (bytes_eq name other)) (list_all (λ o. not (bytes_eq name o)) names) apart in
    (not-true (bytes_eq name other) both.0, none_same name names both.1)

pub distinct_by : (names : List (List ℕ)) → are_apart names ≡ true → IsDistinct bytes_eq names
unfolding IsDistinct
distinct_by [] apart = tt
distinct_by (name ∷ names) apart =
    let both = and_parts (list_all (λ other. not (bytes_eq name other)) names) (are_apart names) apart in
    (none_same name names both.0, distinct_by names both.1)
