-- How lists are cut: after a beginning, and after a run of elements that pass a test.
use Rattle.std.proofs.Common.{◌≡◌, ℕ, ◌+◌, Bool, true, false, List, [], ◌∷◌, ◌++◌, length, take, drop, Some, None, is_some, if◌then◌else◌, bytes_eq, refl, sym, ap, ◌∙◌, one-add}
use Rattle.std.specs.List.{prefix_len, AllPass}
use Rattle.std.proofs.Math.Seq.{take-append_seam, drop-append_seam}
use Rattle.std.proofs.lemmas.Bool.{cond_both}
use Rattle.std.proofs.lemmas.List.{take-append-drop}
use Rattle.std.proofs.lemmas.List.Elements.{All-nil, All-cons}
use Rattle.std.proofs.lemmas.Slice.Eq.{bytes_eq-Decides}
use Rattle.trace_lex.proofs.Lists.{BeginsNot, run_ends}
use Rattle.trace_trigger.specs.TriggerTexts.{after, begins}

-- what follows a beginning
pub after_append : (beginning rest : List ℕ) → after beginning (beginning ++ rest) ≡ Some rest
after_append beginning rest =
    let same : bytes_eq (take (length beginning) (beginning ++ rest)) beginning ≡ true = (bytes_eq-Decides _ _).1 (take-append_seam beginning rest) in
    rw same (ap Some (drop-append_seam beginning rest))

pub after_is : (beginning text rest : List ℕ) → after beginning text ≡ Some rest → text ≡ beginning ++ rest
after_is beginning text rest is = by (bytes_eq (take (length beginning) text) beginning) refl is
  where
    by : (b : Bool) → bytes_eq (take (length beginning) text) beginning ≡ b → (if b then Some (drop (length beginning) text) else None) ≡ Some rest → text ≡ beginning ++ rest
    by true e h =
        let begins : take (length beginning) text ≡ beginning = (bytes_eq-Decides _ _).0 e in
        let ends : drop (length beginning) text ≡ rest = cc in
        sym (take-append-drop (length beginning) text) ∙ (λ i. begins i ++ ends i)
    by false e h = absurd (cc)

-- whether a text begins so
pub begins_so : (beginning text : List ℕ) → take (length beginning) text ≡ beginning → begins beginning text ≡ true
begins_so beginning text is = let same : bytes_eq (take (length beginning) text) beginning ≡ true = (bytes_eq-Decides _ _).1 is in rw same refl

pub so_begins : (beginning text : List ℕ) → begins beginning text ≡ true → take (length beginning) text ≡ beginning
so_begins beginning text is = by (bytes_eq (take (length beginning) text) beginning) refl is
  where
    by : (b : Bool) → bytes_eq (take (length beginning) text) beginning ≡ b → is_some (if b then Some (drop (length beginning) text) else None) ≡ true → take (length beginning) text ≡ beginning
    by true e h = (bytes_eq-Decides _ _).0 e
    by false e h = absurd (cc)

-- a run, and what follows it
pub run_taken : {X : Type 0} (p : X → Bool) (xs rest : List X) → AllPass p xs → BeginsNot p rest → take (prefix_len p (xs ++ rest)) (xs ++ rest) ≡ xs
run_taken p xs rest all none = ap (λ n. take n (xs ++ rest)) (run_ends p xs rest all none) ∙ take-append_seam xs rest

pub run_dropped : {X : Type 0} (p : X → Bool) (xs rest : List X) → AllPass p xs → BeginsNot p rest → drop (prefix_len p (xs ++ rest)) (xs ++ rest) ≡ rest
run_dropped p xs rest all none = ap (λ n. drop n (xs ++ rest)) (run_ends p xs rest all none) ∙ drop-append_seam xs rest

-- the longest run passes, and what follows it begins with none that passes
pub run_passes : {X : Type 0} (p : X → Bool) (xs : List X) → AllPass p (take (prefix_len p xs) xs)
run_passes {X} p [] = All-nil (λ x. p x ≡ true)
run_passes {X} p (x ∷ xs) =
    let P : X → Type 0 = λ y. p y ≡ true in
    cond_both (p x) (1 + prefix_len p xs) 0 (λ n. AllPass p (take n (x ∷ xs)))
    (λ e. rw one-add (All-cons P x (take (prefix_len p xs) xs) e (run_passes p xs)))
    (λ _. All-nil P)

pub run_stops : {X : Type 0} (p : X → Bool) (xs : List X) → BeginsNot p (drop (prefix_len p xs) xs)
run_stops p [] = tt
run_stops p (x ∷ xs) = cond_both (p x) (1 + prefix_len p xs) 0 (λ n. BeginsNot p (drop n (x ∷ xs))) (λ _. rw one-add (run_stops p xs)) (λ e. e)
