-- Hist triggers as members of lists of them.
use Rattle.std.proofs.Common.{◌≡◌, ◌⊎◌, inl, inr, zero, suc, Bool, true, false, not, ◌&&◌, ◌||◌, if◌then◌else◌, List, [], ◌∷◌, ◌++◌, All, refl, sym, ap, ◌∙◌, subst, arith}
use Rattle.std.specs.List.{AllByRecursion, Contains, filter}
use Rattle.std.proofs.lemmas.Bool.{false≢true}
use Rattle.std.proofs.lemmas.List.Elements.{All-cons}
use Rattle.trace_format.specs.Definitions.{Definition}
use Rattle.tracer_specification.specs.HistTriggers.{HistTrigger, is_of, left_by}

abbrev pub IsIn : HistTrigger → List HistTrigger → Type 0
IsIn t [] = ⊥
IsIn t (u ∷ hists) = (u ≡ t) ⊎ IsIn t hists

pub in-contains : (t : HistTrigger) (hists : List HistTrigger) → IsIn t hists → Contains hists t
in-contains t [] there = absurd there
in-contains t (u ∷ hists) (inl is) = (0, omega arith, is)
in-contains t (u ∷ hists) (inr there) = let rest = in-contains t hists there in (suc rest.0, omega (arith, rest.1), rest.2)

pub contains-in : (t : HistTrigger) (hists : List HistTrigger) → Contains hists t → IsIn t hists
contains-in t [] (k, within, is) = absurd (omega (arith, within))
contains-in t (u ∷ hists) (zero, within, is) = inl is
contains-in t (u ∷ hists) (suc k, within, is) = inr (contains-in t hists (k, omega (arith, within), is))

pub in-filter : (t : HistTrigger) (test : HistTrigger → Bool) (hists : List HistTrigger) → IsIn t (filter test hists) → IsIn t hists × (test t ≡ true)
in-filter t test [] there = absurd there
in-filter t test (u ∷ hists) there = by (test u) refl (in-filter t test hists) there
  where
    by : (keeps : Bool) → test u ≡ keeps → (IsIn t (filter test hists) → IsIn t hists × (test t ≡ true))
        → IsIn t (if keeps then u ∷ filter test hists else filter test hists) → IsIn t (u ∷ hists) × (test t ≡ true)
    by true is rest (inl same) = (inl same, ap test (sym same) ∙ is)
    by true is rest (inr more) = let older = rest more in (inr older.0, older.1)
    by false is rest more = let older = rest more in (inr older.0, older.1)

pub filter-in : (t : HistTrigger) (test : HistTrigger → Bool) (hists : List HistTrigger) → IsIn t hists → test t ≡ true → IsIn t (filter test hists)
filter-in t test [] there passes = there
filter-in t test (u ∷ hists) (inl same) passes = by (test u) (ap test same ∙ passes)
  where
    by : (keeps : Bool) → keeps ≡ true → IsIn t (if keeps then u ∷ filter test hists else filter test hists)
    by true is = inl same
    by false is = absurd (false≢true is)
filter-in t test (u ∷ hists) (inr there) passes = by (test u) (filter-in t test hists there passes)
  where
    by : (keeps : Bool) → IsIn t (filter test hists) → IsIn t (if keeps then u ∷ filter test hists else filter test hists)
    by true rest = inr rest
    by false rest = rest

pub in-push : (t new : HistTrigger) (hists : List HistTrigger) → IsIn t (hists ++ new ∷ []) → IsIn t hists ⊎ (new ≡ t)
in-push t new [] (inl same) = inr same
in-push t new [] (inr none) = absurd none
in-push t new (u ∷ hists) (inl same) = inl (inl same)
in-push t new (u ∷ hists) (inr there) = elim (in-push t new hists there) [ inl older ↦ inl (inr older) | inr same ↦ inr same ]

pub push-old : (t new : HistTrigger) (hists : List HistTrigger) → IsIn t hists → IsIn t (hists ++ new ∷ [])
push-old t new [] there = absurd there
push-old t new (u ∷ hists) (inl same) = inl same
push-old t new (u ∷ hists) (inr there) = inr (push-old t new hists there)

pub push-new : (new : HistTrigger) (hists : List HistTrigger) → IsIn new (hists ++ new ∷ [])
push-new new [] = inl refl
push-new new (u ∷ hists) = inr (push-new new hists)

-- what holds of each holds of one
pub each-in : (P : HistTrigger → Type 0) (t : HistTrigger) (hists : List HistTrigger) → AllByRecursion P hists → IsIn t hists → P t
each-in P t [] all there = absurd there
each-in P t (u ∷ hists) (first, all) (inl same) = subst P same first
each-in P t (u ∷ hists) (first, all) (inr there) = each-in P t hists all there

-- and what holds of every one holds of each
pub in-each : (P : HistTrigger → Type 0) (hists : List HistTrigger) → ((t : HistTrigger) → IsIn t hists → P t) → AllByRecursion P hists
in-each P [] holds = tt
in-each P (u ∷ hists) holds = (holds u (inl refl), in-each P hists (λ t there. holds t (inr there)))

pub in-all : (P : HistTrigger → Type 0) (hists : List HistTrigger) → ((t : HistTrigger) → IsIn t hists → P t) → All P hists
in-all P [] holds k d within = absurd (omega (arith, within))
in-all P (u ∷ hists) holds k d within = All-cons P u hists (holds u (inl refl)) (in-all P hists (λ t there. holds t (inr there))) k d within

pub all-in : (P : HistTrigger → Type 0) (t : HistTrigger) (hists : List HistTrigger) → All P hists → IsIn t hists → P t
all-in P t [] all there = absurd there
all-in P t (u ∷ hists) all (inl same) = subst P same (all 0 t (omega arith))
all-in P t (u ∷ hists) all (inr there) = all-in P t hists (λ k d within. all (suc k) d (omega (arith, within))) there

-- ---- tests

pub not-true : (b : Bool) → not b ≡ true → b ≡ false
not-true true is = absurd (false≢true is)
not-true false is = refl

pub not-false : (b : Bool) → b ≡ false → not b ≡ true
not-false b is = ap not is

pub and-nothing : (b : Bool) → (b && false) ≡ false
and-nothing true = refl
and-nothing false = refl

pub both-false : (x y : Bool) → (x || y) ≡ false → (x ≡ false) × (y ≡ false)
both-false true y is = absurd (false≢true (sym is))
both-false false y is = (refl, is)

-- ---- those that a text leaves

pub left-in : (t : HistTrigger) (event : Definition) (append : Bool) (hists : List HistTrigger) → IsIn t (left_by event append hists)
    → IsIn t hists × ((is_of event t && not append) ≡ false)
left-in t event true hists there = (there, and-nothing (is_of event t))
left-in t event false hists there =
    let older = in-filter t (λ u. not (is_of event u)) hists there in
    let other : is_of event t ≡ false = not-true (is_of event t) older.1 in
    (older.0, ap (λ (b : Bool). b && true) other)

pub in-left : (t : HistTrigger) (event : Definition) (append : Bool) (hists : List HistTrigger) → IsIn t hists → (is_of event t && not append) ≡ false
    → IsIn t (left_by event append hists)
in-left t event true hists there stays = there
in-left t event false hists there stays = filter-in t (λ u. not (is_of event u)) hists there (not-false (is_of event t) (by (is_of event t) stays))
  where
    by : (b : Bool) → (b && true) ≡ false → b ≡ false
    by true is = absurd (false≢true (sym is))
    by false is = refl
