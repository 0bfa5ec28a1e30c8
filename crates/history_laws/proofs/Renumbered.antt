-- One request more among those that were done: numbers by which triggers and tables are known, from there on greater by one.
use Rattle.std.proofs.Common.{◌≡◌, ◌⊎◌, inl, inr, ℕ, suc, ◌<◌, ◌≤◌, ◌==◌, nat_lt, Bool, true, false, if◌then◌else◌, List, [], ◌∷◌, ◌++◌, filter, map, flat_map, Some, option_map, refl, sym, ap, ◌∙◌, arith, eq-eqb, eqb-true, lt-ltb, ltb-true}
use Rattle.std.specs.List.{find, list_any}
use Rattle.std.proofs.lemmas.Bool.{cases_Bool, cond-false, cond-true, false≢true, ltb-false}
use Rattle.tracer_specification.specs.HistTriggers.{HistTrigger}
use Rattle.tracer_specification.specs.Triggers.{Trigger}
use Rattle.tracer_specification.proofs.Tables.{AreMadeBefore, IsBefore}

-- ---- tests

pub alike : (one other : Bool) → (one ≡ true → other ≡ true) → (other ≡ true → one ≡ true) → one ≡ other
alike true true there back = refl
alike true false there back = absurd (false≢true (there refl))
alike false true there back = absurd (false≢true (back refl))
alike false false there back = refl

-- ---- numbers

-- a number of a request, where there is one more after the first n
abbrev pub up : ℕ → ℕ → ℕ
up n m = if nat_lt m n then m else suc m

abbrev pub IsRaised : ℕ → ℕ → Type 0
IsRaised n m = ((m < n) × (up n m ≡ m)) ⊎ ((n ≤ m) × (up n m ≡ suc m))

pub up-cases : (n m : ℕ) → IsRaised n m
up-cases n m = elim (cases_Bool (nat_lt m n)) [
  | inl less ↦ inl (ltb-true m n less, cond-true _ m (suc m) less)
  | inr not_less ↦ inr (ltb-false m n not_less, cond-false _ m (suc m) not_less)
]

pub up-early : (n m : ℕ) → m < n → up n m ≡ m
up-early n m less = elim (up-cases n m) [
  | inl early ↦ early.1
  | inr late ↦ absurd (let le = late.0 in omega (arith, less, le))
]

pub up-late : (n m : ℕ) → n ≤ m → up n m ≡ suc m
up-late n m le = elim (up-cases n m) [
  | inl early ↦ absurd (let less = early.0 in omega (arith, less, le))
  | inr late ↦ late.1
]

pub up-less : (n a b : ℕ) → nat_lt (up n a) (up n b) ≡ nat_lt a b
up-less n a b = alike (nat_lt (up n a) (up n b)) (nat_lt a b)
    (λ is. lt-ltb a b (back (up-cases n a) (up-cases n b) (ltb-true (up n a) (up n b) is)))
    (λ is. lt-ltb (up n a) (up n b) (there (up-cases n a) (up-cases n b) (ltb-true a b is)))
  where
    there : IsRaised n a → IsRaised n b → a < b → up n a < up n b
    there (inl x) (inl y) l = omega (arith, x.0, x.1, y.0, y.1, l)
    there (inl x) (inr y) l = omega (arith, x.0, x.1, y.0, y.1, l)
    there (inr x) (inl y) l = omega (arith, x.0, x.1, y.0, y.1, l)
    there (inr x) (inr y) l = omega (arith, x.0, x.1, y.0, y.1, l)

    back : IsRaised n a → IsRaised n b → up n a < up n b → a < b
    back (inl x) (inl y) l = omega (arith, x.0, x.1, y.0, y.1, l)
    back (inl x) (inr y) l = omega (arith, x.0, x.1, y.0, y.1, l)
    back (inr x) (inl y) l = omega (arith, x.0, x.1, y.0, y.1, l)
    back (inr x) (inr y) l = omega (arith, x.0, x.1, y.0, y.1, l)

pub up-same : (n a b : ℕ) → (up n a == up n b) ≡ (a == b)
up-same n a b = alike (up n a == up n b) (a == b)
    (λ is. eq-eqb a b (back (up-cases n a) (up-cases n b) (eqb-true (up n a) (up n b) is)))
    (λ is. eq-eqb (up n a) (up n b) (ap (up n) (eqb-true a b is)))
  where
    back : IsRaised n a → IsRaised n b → up n a ≡ up n b → a ≡ b
    back (inl x) (inl y) e = omega (arith, x.0, x.1, y.0, y.1, e)
    back (inl x) (inr y) e = omega (arith, x.0, x.1, y.0, y.1, e)
    back (inr x) (inl y) e = omega (arith, x.0, x.1, y.0, y.1, e)
    back (inr x) (inr y) e = omega (arith, x.0, x.1, y.0, y.1, e)

-- ---- triggers

abbrev pub later_trigger : ℕ → Trigger → Trigger
later_trigger n t = record { number = up n t.number; spec = t.spec }

abbrev pub later_hist : ℕ → HistTrigger → HistTrigger
later_hist n t = record { event = t.event; number = up n t.number; spec = t.spec; table = up n t.table }

-- those that were attached before stay as they are
pub early-trigger : (n : ℕ) (t : Trigger) → t.number < n → later_trigger n t ≡ t
early-trigger n t less = ap (λ (m : ℕ). let u : Trigger = record { number = m; spec = t.spec } in u) (up-early n t.number less)

early-hist : (n : ℕ) (t : HistTrigger) → IsBefore n t → later_hist n t ≡ t
early-hist n t before =
    ap (λ (m : ℕ). let u : HistTrigger = record { event = t.event; number = m; spec = t.spec; table = up n t.table } in u) (up-early n t.number before.number)
    ∙ ap (λ (m : ℕ). let u : HistTrigger = record { event = t.event; number = t.number; spec = t.spec; table = m } in u) (up-early n t.table before.table)

pub early-hists : (n : ℕ) (hists : List HistTrigger) → AreMadeBefore n hists → hists ≡ map (later_hist n) hists
early-hists n [] before = refl
early-hists n (t ∷ hists) before =
    ap (λ (ts : List HistTrigger). t ∷ ts) (early-hists n hists before.1)
    ∙ ap (λ (u : HistTrigger). u ∷ map (later_hist n) hists) (sym (early-hist n t before.0))

-- ---- lists of them

-- a test of what is not renumbered
pub filter-later : (n : ℕ) (test test_later : HistTrigger → Bool) → ((t : HistTrigger) → test_later (later_hist n t) ≡ test t) → (hists : List HistTrigger)
    → filter test_later (map (later_hist n) hists) ≡ map (later_hist n) (filter test hists)
filter-later n test test_later same [] = refl
filter-later n test test_later same (t ∷ hists) =
    by (test t) (test_later (later_hist n t)) (same t) (filter-later n test test_later same hists)
  where
    by : (keeps keeps_later : Bool) → keeps_later ≡ keeps → filter test_later (map (later_hist n) hists) ≡ map (later_hist n) (filter test hists)
        → (if keeps_later then later_hist n t ∷ filter test_later (map (later_hist n) hists) else filter test_later (map (later_hist n) hists))
        ≡ map (later_hist n) (if keeps then t ∷ filter test hists else filter test hists)
    by true true is rest = ap (λ (ts : List HistTrigger). later_hist n t ∷ ts) rest
    by false false is rest = rest
    by true false is rest = absurd (false≢true is)
    by false true is rest = absurd (false≢true (sym is))

pub any-later : (n : ℕ) (test test_later : HistTrigger → Bool) → ((t : HistTrigger) → test_later (later_hist n t) ≡ test t) → (hists : List HistTrigger)
    → list_any test_later (map (later_hist n) hists) ≡ list_any test hists
any-later n test test_later same [] = refl
any-later n test test_later same (t ∷ hists) = rw (same t, any-later n test test_later same hists) refl

pub find-later : (n : ℕ) (test test_later : HistTrigger → Bool) → ((t : HistTrigger) → test_later (later_hist n t) ≡ test t) → (hists : List HistTrigger)
    → find test_later (map (later_hist n) hists) ≡ option_map (later_hist n) (find test hists)
find-later n test test_later same [] = refl
find-later n test test_later same (t ∷ hists) =
    by (test t) (test_later (later_hist n t)) (same t) (find-later n test test_later same hists)
  where
    by : (is is_later : Bool) → is_later ≡ is → find test_later (map (later_hist n) hists) ≡ option_map (later_hist n) (find test hists)
        → (if is_later then Some (later_hist n t) else find test_later (map (later_hist n) hists))
        ≡ option_map (later_hist n) (if is then Some t else find test hists)
    by true true e rest = refl
    by false false e rest = rest
    by true false e rest = absurd (false≢true e)
    by false true e rest = absurd (false≢true (sym e))

pub map-later : {A : Type 0} (n : ℕ) (show show_later : HistTrigger → A) → ((t : HistTrigger) → show_later (later_hist n t) ≡ show t) → (hists : List HistTrigger)
    → map show_later (map (later_hist n) hists) ≡ map show hists
map-later n show show_later same [] = refl
map-later {A} n show show_later same (t ∷ hists) =
    ap (λ (x : A). x ∷ map show_later (map (later_hist n) hists)) (same t)
    ∙ ap (λ (xs : List A). show t ∷ xs) (map-later n show show_later same hists)

pub each-later : {A : Type 0} (n : ℕ) (rows rows_later : HistTrigger → List A) → ((t : HistTrigger) → rows_later (later_hist n t) ≡ rows t)
    → (hists : List HistTrigger) → flat_map rows_later (map (later_hist n) hists) ≡ flat_map rows hists
each-later n rows rows_later same [] = refl
each-later {A} n rows rows_later same (t ∷ hists) =
    ap (λ (x : List A). x ++ flat_map rows_later (map (later_hist n) hists)) (same t)
    ∙ ap (λ (xs : List A). rows t ++ xs) (each-later n rows rows_later same hists)
