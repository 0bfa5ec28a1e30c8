-- What is kept of the errors of an instance.
use Rattle.std.proofs.Common.{◌≡◌, ◌≤◌, ◌<◌, ℕ, suc, ◌+◌, ◌-◌, nat_lt, Bool, true, false, not, cond, if◌then◌else◌, List, [], ◌∷◌, ◌++◌, length, take, drop, refl, sym, ap, subst, ◌∙◌, arith}
use Rattle.std.specs.List.{after_first, before_first, count_by, filter, position_or_len}
use Rattle.std.proofs.lemmas.List.Sums.{length-filter}
use Rattle.std.proofs.lemmas.List.Elements.{filter-append}
use Rattle.std.proofs.lemmas.Bool.{eqb-true, le-ltb, lt-ltb, ltb-false, ltb-true}
use Rattle.std.proofs.lemmas.List.{append-nil, drop-append-le, drop-drop, length-append, length-drop}
use Rattle.mount_tree.specs.declared.node.Owner.{Owner}
use Rattle.mount_tree.specs.declared.node.Owner.TheVariants.{Top, Made}
use Rattle.error_log.specs.Errors.{ErrorSeen}
use Rattle.error_log.specs.Logs.{cleared, errors_of, is_of, is_same, noted, trimmed, without_first}
use Rattle.error_log.specs.LogLaws.{Noted, Cleared, KeepsLastEight, errors_after, last_eight, noted_since}

-- ---- lists

-- without the first of a list that passes
abbrev without : {X : Type 0} → (X → Bool) → List X → List X
without p xs = before_first p xs ++ after_first p xs

without-step : {X : Type 0} (p : X → Bool) (x : X) (xs : List X) → without p (x ∷ xs) ≡ cond (p x) xs (x ∷ without p xs)
without-step {X} p x xs = by (p x)
  where
    by : (b : Bool) → take (cond (not b) (1 + position_or_len p xs) 0) (x ∷ xs) ++ drop (cond (not b) (1 + position_or_len p xs) 0 + 1) (x ∷ xs)
        ≡ cond b xs (x ∷ without p xs)
    by true = refl
    by false =
        let one : 1 + position_or_len p xs ≡ suc (position_or_len p xs) = omega arith in
        let two : 1 + position_or_len p xs + 1 ≡ suc (position_or_len p xs + 1) = omega arith in
        ap (λ (n : ℕ). take n (x ∷ xs) ++ drop (1 + position_or_len p xs + 1) (x ∷ xs)) one
        ∙ ap (λ (n : ℕ). take (suc (position_or_len p xs)) (x ∷ xs) ++ drop n (x ∷ xs)) two

-- those that pass are without their first
first-is-out : {X : Type 0} (p : X → Bool) (xs : List X) → filter p (without p xs) ≡ drop 1 (filter p xs)
first-is-out p [] = refl
first-is-out {X} p (x ∷ xs) = ap (filter p) (without-step p x xs) ∙ by (p x) refl (first-is-out p xs)
  where
    by : (b : Bool) → p x ≡ b → filter p (without p xs) ≡ drop 1 (filter p xs) → filter p (cond b xs (x ∷ without p xs)) ≡ drop 1 (cond b (x ∷ filter p xs) (filter p xs))
    by true at rest = refl
    by false at rest = ap (λ (t : Bool). cond t (x ∷ filter p (without p xs)) (filter p (without p xs))) at ∙ rest

-- and those that pass another test stay, if the first does not
others-stay : {X : Type 0} (p q : X → Bool) → ((x : X) → p x ≡ true → q x ≡ false) → (xs : List X) → filter q (without p xs) ≡ filter q xs
others-stay p q apart [] = refl
others-stay {X} p q apart (x ∷ xs) = ap (filter q) (without-step p x xs) ∙ by (p x) refl (others-stay p q apart xs)
  where
    by : (b : Bool) → p x ≡ b → filter q (without p xs) ≡ filter q xs → filter q (cond b xs (x ∷ without p xs)) ≡ cond (q x) (x ∷ filter q xs) (filter q xs)
    by true at same = sym (ap (λ (t : Bool). cond t (x ∷ filter q xs) (filter q xs)) (apart x at))
    by false at same = ap (λ (rest : List X). cond (q x) (x ∷ rest) rest) same

-- of those that don't pass none passes
none-pass : {X : Type 0} (p : X → Bool) (xs : List X) → filter p (filter (λ x. not (p x)) xs) ≡ []
none-pass p [] = refl
none-pass {X} p (x ∷ xs) = by (p x) refl (none-pass p xs)
  where
    by : (b : Bool) → p x ≡ b → filter p (filter (λ y. not (p y)) xs) ≡ [] → filter p (cond (not b) (x ∷ filter (λ y. not (p y)) xs) (filter (λ y. not (p y)) xs)) ≡ []
    by true at none = none
    by false at none = ap (λ (t : Bool). cond t (x ∷ filter p (filter (λ y. not (p y)) xs)) (filter p (filter (λ y. not (p y)) xs))) at ∙ none

-- and all that pass another test are there
others-pass : {X : Type 0} (p q : X → Bool) → ((x : X) → p x ≡ true → q x ≡ false) → (xs : List X) → filter q (filter (λ x. not (p x)) xs) ≡ filter q xs
others-pass p q apart [] = refl
others-pass {X} p q apart (x ∷ xs) = by (p x) refl (others-pass p q apart xs)
  where
    by : (b : Bool) → p x ≡ b → filter q (filter (λ y. not (p y)) xs) ≡ filter q xs → filter q (cond (not b) (x ∷ filter (λ y. not (p y)) xs) (filter (λ y. not (p y)) xs)) ≡ cond (q x) (x ∷ filter q xs) (filter q xs)
    by true at same = same ∙ sym (ap (λ (t : Bool). cond t (x ∷ filter q xs) (filter q xs)) (apart x at))
    by false at same = ap (λ (rest : List X). cond (q x) (x ∷ rest) rest) same

-- ---- the last eight

abbrev without_ninth : List ErrorSeen → List ErrorSeen
without_ninth errors = if nat_lt 8 (length errors) then drop 1 errors else errors

next-eight : (since : List ErrorSeen) (error : ErrorSeen) → without_ninth (last_eight since ++ error ∷ []) ≡ last_eight (since ++ error ∷ [])
next-eight since error = by (nat_lt 7 (length since)) refl
  where
    length-next : length (last_eight since ++ error ∷ []) ≡ length since - (length since - 8) + 1
    length-next = length-append (last_eight since) (error ∷ []) ∙ ap (λ (n : ℕ). n + 1) (length-drop (length since - 8) since)

    length-longer : length (since ++ error ∷ []) ≡ length since + 1
    length-longer = length-append since (error ∷ [])

    longer : last_eight (since ++ error ∷ []) ≡ drop (length since + 1 - 8) (since ++ error ∷ [])
    longer = ap (λ (n : ℕ). drop (n - 8) (since ++ error ∷ [])) length-longer

    few : length since ≤ 7 → without_ninth (last_eight since ++ error ∷ []) ≡ last_eight (since ++ error ∷ [])
    few at =
        let none : length since - 8 ≡ 0 = omega (arith, at) in
        let none-more : length since + 1 - 8 ≡ 0 = omega (arith, at) in
        let short : nat_lt 8 (length (last_eight since ++ error ∷ [])) ≡ false = le-ltb 8 (length (last_eight since ++ error ∷ [])) (omega (arith, at, length-next)) in
        ap (λ (b : Bool). if b then drop 1 (last_eight since ++ error ∷ []) else last_eight since ++ error ∷ []) short
        ∙ ap (λ (n : ℕ). drop n since ++ error ∷ []) none
        ∙ sym (longer ∙ ap (λ (n : ℕ). drop n (since ++ error ∷ [])) none-more)

    many : 7 < length since → without_ninth (last_eight since ++ error ∷ []) ≡ last_eight (since ++ error ∷ [])
    many at =
        let long : nat_lt 8 (length (last_eight since ++ error ∷ [])) ≡ true = lt-ltb 8 (length (last_eight since ++ error ∷ [])) (omega (arith, at, length-next)) in
        let has : 1 ≤ length (last_eight since) = rw length-drop (omega (arith, at)) in
        let sum : length since - 8 + 1 ≡ length since + 1 - 8 = omega (arith, at) in
        ap (λ (b : Bool). if b then drop 1 (last_eight since ++ error ∷ []) else last_eight since ++ error ∷ []) long
        ∙ drop-append-le 1 (last_eight since) (error ∷ []) has
        ∙ ap (λ (l : List ErrorSeen). l ++ error ∷ []) (drop-drop 1 (length since - 8) since)
        ∙ ap (λ (n : ℕ). drop n since ++ error ∷ []) sum
        ∙ sym (longer ∙ drop-append-le (length since + 1 - 8) since (error ∷ []) (omega (arith, at)))

    by : (b : Bool) → nat_lt 7 (length since) ≡ b → without_ninth (last_eight since ++ error ∷ []) ≡ last_eight (since ++ error ∷ [])
    by true at = many (ltb-true 7 (length since) at)
    by false at = few (ltb-false 7 (length since) at)

-- ---- instances

same-owner : (one other : Owner) → is_same one other ≡ true → one ≡ other
same-owner Top Top is = refl
same-owner Top (Made other) is = absurd (cc)
same-owner (Made one) Top is = absurd (cc)
same-owner (Made one) (Made other) is = ap Made (eqb-true one other is)

-- an error is of one instance
apart : (owner other : Owner) → is_same other owner ≡ false → (e : ErrorSeen) → is_of owner e ≡ true → is_of other e ≡ false
apart owner other differ e is = subst (λ (o : Owner). is_same other o ≡ false) (same-owner owner e.owner is) differ

own-trimmed : (owner : Owner) (errors : List ErrorSeen) → errors_of owner (trimmed owner errors) ≡ without_ninth (errors_of owner errors)
own-trimmed owner errors =
    by (nat_lt 8 (count_by (is_of owner) errors))
    ∙ ap (λ (n : ℕ). if nat_lt 8 n then drop 1 (errors_of owner errors) else errors_of owner errors) (sym (length-filter (is_of owner) errors))
  where
    by : (b : Bool) → errors_of owner (if b then without_first owner errors else errors) ≡ (if b then drop 1 (errors_of owner errors) else errors_of owner errors)
    by true = first-is-out (is_of owner) errors
    by false = refl

others-trimmed : (owner other : Owner) (errors : List ErrorSeen) → is_same other owner ≡ false → errors_of other (trimmed owner errors) ≡ errors_of other errors
others-trimmed owner other errors differ = by (nat_lt 8 (count_by (is_of owner) errors))
  where
    by : (b : Bool) → errors_of other (if b then without_first owner errors else errors) ≡ errors_of other errors
    by true = others-stay (is_of owner) (is_of other) (apart owner other differ) errors
    by false = refl

-- ---- the law

kept-noted : (owner : Owner) (error : ErrorSeen) (errors since : List ErrorSeen) → errors_of owner errors ≡ last_eight since
    → errors_of owner (noted error errors) ≡ last_eight (since ++ (if is_of owner error then error ∷ [] else []))
kept-noted owner error errors since before = by (is_of owner error) refl
  where
    own : owner ≡ error.owner → errors_of owner (noted error errors) ≡ without_ninth (errors_of owner (errors ++ error ∷ []))
    own is = subst (λ (o : Owner). errors_of owner (trimmed o (errors ++ error ∷ [])) ≡ without_ninth (errors_of owner (errors ++ error ∷ []))) is (own-trimmed owner (errors ++ error ∷ []))

    added : (b : Bool) → is_of owner error ≡ b → errors_of owner (errors ++ error ∷ []) ≡ last_eight since ++ cond b (error ∷ []) []
    added b at = filter-append (is_of owner) errors (error ∷ []) ∙ ap (λ (first : List ErrorSeen). first ++ cond (is_of owner error) (error ∷ []) []) before
        ∙ ap (λ (t : Bool). last_eight since ++ cond t (error ∷ []) []) at

    by : (b : Bool) → is_of owner error ≡ b → errors_of owner (noted error errors) ≡ last_eight (since ++ (if b then error ∷ [] else []))
    by true at = own (same-owner owner error.owner at) ∙ ap without_ninth (added true at) ∙ next-eight since error
    by false at = others-trimmed error.owner owner (errors ++ error ∷ []) at ∙ added false at ∙ append-nil (last_eight since) ∙ sym (ap last_eight (append-nil since))

kept-cleared : (owner other : Owner) (errors since : List ErrorSeen) → errors_of owner errors ≡ last_eight since
    → errors_of owner (cleared other errors) ≡ last_eight (if is_same owner other then [] else since)
kept-cleared owner other errors since before = by (is_same owner other) refl
  where
    by : (b : Bool) → is_same owner other ≡ b → errors_of owner (cleared other errors) ≡ last_eight (if b then [] else since)
    by true at = subst (λ (o : Owner). errors_of owner (cleared o errors) ≡ []) (same-owner owner other at) (none-pass (is_of owner) errors)
    by false at = others-pass (is_of other) (is_of owner) (apart other owner at) errors ∙ before

pub keeps_last_eight : KeepsLastEight
keeps_last_eight owner [] = refl
keeps_last_eight owner (Noted error ∷ changes) = kept-noted owner error (errors_after changes) (noted_since owner changes) (keeps_last_eight owner changes)
keeps_last_eight owner (Cleared other ∷ changes) = kept-cleared owner other (errors_after changes) (noted_since owner changes) (keeps_last_eight owner changes)
