-- A list read element by element, from its front.
use Rattle.std.proofs.Common.{◌≡◌, ℕ, ◌+◌, ◌<◌, ◌≤◌, List, [], ◌∷◌, ◌++◌, length, drop, get_or, refl, sym, ap, ◌∙◌, arith}
use Rattle.std.proofs.lemmas.List.{at_drop_more, drop_all, append_assoc, append-nil}
use Rattle.std.specs.Prelude.{Result, Ok, Err}
use Rattle.trace_trigger.specs.declared.fault.TriggerFault.{TriggerFault}
use Rattle.trace_trigger.specs.declared.fault.TriggerFault.TheVariants.{BadText, FilterTooLong, FilterTooDeep, TooManyKeys, TooManyValues, TooManySortKeys, FilterSyntax, NoSuchField, WrongOperator, HistSyntax, BadSize, Memory}
use Rattle.trace_trigger.specs.TriggerAnswers.{◌>>=◌, IsTold}
use Rattle.trace_trigger.specs.HistMeanings.{each}

-- a fault that the definition gives may be told
pub told_is : {A : Type 0} (fault : TriggerFault) (answer : Result A TriggerFault) → answer ≡ Err fault → IsTold fault answer
told_is (BadText cause) answer e = e
told_is (HistSyntax at cause) answer e = e
told_is FilterTooLong answer e = e
told_is FilterTooDeep answer e = e
told_is TooManyKeys answer e = e
told_is TooManyValues answer e = e
told_is TooManySortKeys answer e = e
told_is (NoSuchField at) answer e = e
told_is (WrongOperator at cause) answer e = e
told_is BadSize answer e = e
told_is (FilterSyntax at cause) answer e = e
told_is Memory answer e = tt

module _ {A B : Type 0} (read : A → Result B TriggerFault) where
  -- what is found up to an element, and what the rest comes to
  abbrev pub each_from : List A → ℕ → List B → Result (List B) TriggerFault
  each_from xs i found = each read (drop i xs) >>= λ ys. Ok (found ++ ys)

  abbrev read_all : List B → Result (List B) TriggerFault
  read_all ys = Ok ys

  step : (xs : List A) (i : ℕ) (x : A) → i < length xs → x ≡ get_or xs i x → drop i xs ≡ x ∷ drop (i + 1) xs
  step xs i x within is = at_drop_more (λ r. r) xs i x within ∙ ap (λ y. y ∷ drop (i + 1) xs) (sym is)

  with_read : Result B TriggerFault → List A → List B → Result (List B) TriggerFault
  with_read one xs found = (one >>= λ y. each read xs >>= λ ys. Ok (y ∷ ys)) >>= λ ys. Ok (found ++ ys)

  found_more : (rest : Result (List B) TriggerFault) (y : B) (found : List B)
      → ((rest >>= λ ys. Ok (y ∷ ys)) >>= λ ys. Ok (found ++ ys)) ≡ (rest >>= λ ys. Ok (found ++ y ∷ [] ++ ys))
  found_more (Ok ys) y found = ap read_all (sym (append_assoc found (y ∷ []) ys))
  found_more (Err fault) y found = refl

  pub each_more : (xs : List A) (i : ℕ) (x : A) (y : B) (found more : List B) (whole : Result (List B) TriggerFault) → i < length xs → x ≡ get_or xs i x
      → read x ≡ Ok y → more ≡ found ++ y ∷ [] → whole ≡ each_from xs i found → whole ≡ each_from xs (i + 1) more
  unfolding with_read
  each_more xs i x y found more whole within is gives grown so_far =
      so_far
      ∙ ap (λ r. each read r >>= λ ys. Ok (found ++ ys)) (step xs i x within is)
      ∙ ap (λ one. with_read one (drop (i + 1) xs) found) gives
      ∙ found_more (each read (drop (i + 1) xs)) y found
      ∙ ap (λ f. each read (drop (i + 1) xs) >>= λ ys. Ok (f ++ ys)) (sym grown)

  each_refused : (xs : List A) (i : ℕ) (x : A) (fault : TriggerFault) (found : List B) (whole : Result (List B) TriggerFault) → i < length xs → x ≡ get_or xs i x
      → read x ≡ Err fault → whole ≡ each_from xs i found → whole ≡ Err fault
  unfolding with_read
  each_refused xs i x fault found whole within is refused so_far =
      so_far
      ∙ ap (λ r. each read r >>= λ ys. Ok (found ++ ys)) (step xs i x within is)
      ∙ ap (λ one. with_read one (drop (i + 1) xs) found) refused

  -- the fault of an element is the list's
  pub each_at_fault : (xs : List A) (i : ℕ) (x : A) (fault : TriggerFault) (found : List B) (whole : Result (List B) TriggerFault) → i < length xs → x ≡ get_or xs i x
      → read x ≡ Err fault → whole ≡ each_from xs i found → IsTold fault whole
  each_at_fault xs i x fault found whole within is refused so_far = told_is fault whole (each_refused xs i x fault found whole within is refused so_far)

  pub each_told : (xs : List A) (i : ℕ) (x : A) (fault : TriggerFault) (found : List B) (whole : Result (List B) TriggerFault) → i < length xs → x ≡ get_or xs i x
      → IsTold fault (read x) → whole ≡ each_from xs i found → IsTold fault whole
  each_told xs i x (BadText cause) found whole within is told so_far = each_refused xs i x (BadText cause) found whole within is told so_far
  each_told xs i x FilterTooLong found whole within is told so_far = each_refused xs i x FilterTooLong found whole within is told so_far
  each_told xs i x FilterTooDeep found whole within is told so_far = each_refused xs i x FilterTooDeep found whole within is told so_far
  each_told xs i x TooManyKeys found whole within is told so_far = each_refused xs i x TooManyKeys found whole within is told so_far
  each_told xs i x TooManyValues found whole within is told so_far = each_refused xs i x TooManyValues found whole within is told so_far
  each_told xs i x TooManySortKeys found whole within is told so_far = each_refused xs i x TooManySortKeys found whole within is told so_far
  each_told xs i x (FilterSyntax at cause) found whole within is told so_far = each_refused xs i x (FilterSyntax at cause) found whole within is told so_far
  each_told xs i x (NoSuchField at) found whole within is told so_far = each_refused xs i x (NoSuchField at) found whole within is told so_far
  each_told xs i x (WrongOperator at cause) found whole within is told so_far = each_refused xs i x (WrongOperator at cause) found whole within is told so_far
  each_told xs i x (HistSyntax at cause) found whole within is told so_far = each_refused xs i x (HistSyntax at cause) found whole within is told so_far
  each_told xs i x BadSize found whole within is told so_far = each_refused xs i x BadSize found whole within is told so_far
  each_told xs i x Memory found whole within is told so_far = tt

  pub each_end : (xs : List A) (i : ℕ) (found : List B) (whole : Result (List B) TriggerFault) → length xs ≤ i → whole ≡ each_from xs i found → whole ≡ Ok found
  each_end xs i found whole past so_far =
      so_far
      ∙ ap (λ r. each read r >>= λ ys. Ok (found ++ ys)) (drop_all i xs past)
      ∙ ap read_all (append-nil found)

  -- each element comes to one
  each_len : (xs : List A) (ys : List B) → each read xs ≡ Ok ys → length ys ≡ length xs
  each_len [] [] e = refl
  each_len [] (y ∷ ys) e = absurd (cc)
  each_len (x ∷ xs) ys e = by (read x) (each read xs) (each_len xs) e
    where
      by : (first : Result B TriggerFault) (rest : Result (List B) TriggerFault) → ((zs : List B) → rest ≡ Ok zs → length zs ≡ length xs)
          → (first >>= λ y. rest >>= λ zs. Ok (y ∷ zs)) ≡ Ok ys → length ys ≡ length (x ∷ xs)
      by (Err fault) rest next f = absurd (cc)
      by (Ok y) (Err fault) next f = absurd (cc)
      by (Ok y) (Ok zs) next f = let same : y ∷ zs ≡ ys = cc in omega (arith, ap length same, next zs refl)

  pub each_few : (xs : List A) (ys : List B) (most : ℕ) → each read xs ≡ Ok ys → length xs ≤ most → length ys ≤ most
  each_few xs ys most e few = omega (arith, each_len xs ys e, few)
