-- Of an event's hist triggers at most one says the same as a text, so a text speaks of the table of the one that is found.
use Rattle.std.proofs.Common.{◌≡◌, ℕ, suc, ◌<◌, ◌==◌, Bool, true, false, ◌&&◌, ◌||◌, if◌then◌else◌, is_some, List, [], ◌∷◌, length, map, get_or, Some, refl, sym, ap, ◌∙◌, arith}
use Rattle.std.specs.List.{AllPairs, find, list_any}
use Rattle.std.proofs.lemmas.Bool.{false_from_ne_true}
use Rattle.std.proofs.lemmas.Option.{same_Some}
use Rattle.trace_trigger.specs.HistSpecs.{SpecSeen}
use Rattle.trace_trigger.specs.SameSpecs.{IsSame, is_same}
use Rattle.trace_trigger.proofs.SameLaws.{same_is_decided}
use Rattle.tracer_specification.specs.HistTriggers.{HistTrigger}
use Rattle.trace_instance.specs.KeptHists.{attached_as, says_same}
use Rattle.trace_instance.specs.declared.hists.AttachedHist.{AttachedHist}

-- two that say the same as a text say the same
both-same : (spec one other : SpecSeen) → is_same spec one ≡ true → is_same spec other ≡ true → IsSame one other
both-same spec one other first second =
    let a = (same_is_decided spec one).0 first in
    let b = (same_is_decided spec other).0 second in
    record { name = sym a.name ∙ b.name; keys = sym a.keys ∙ b.keys; values = sym a.values ∙ b.values; sort = sym a.sort ∙ b.sort; filter = sym a.filter ∙ b.filter }

-- one says the same and has the table of a number
abbrev pub speaks_for : SpecSeen → ℕ → AttachedHist → Bool
speaks_for spec number a = says_same spec a && (a.table == number)

pub or-none : (b : Bool) → (b || false) ≡ b
or-none true = refl
or-none false = refl

none-speaks : (spec : SpecSeen) (number : ℕ) (hists : List HistTrigger)
    → ((k : ℕ) (d : HistTrigger) → k < length hists → is_same spec (get_or hists k d).spec ≡ true → ⊥)
    → list_any (speaks_for spec number) (map attached_as hists) ≡ false
none-speaks spec number [] other = refl
none-speaks spec number (t ∷ hists) other =
    let first : is_same spec t.spec ≡ false = false_from_ne_true (is_same spec t.spec) (other 0 t (omega arith)) in
    rw first (none-speaks spec number hists (λ k d within. other (suc k) d (omega (arith, within))))

-- where two that say the same are one, a text speaks of the table of the one that is found
pub one-speaks : (spec : SpecSeen) (number : ℕ) (hists : List HistTrigger) (a : AttachedHist) → AllPairs (λ (t u : HistTrigger). IsSame t.spec u.spec → ⊥) hists
    → find (says_same spec) (map attached_as hists) ≡ Some a → list_any (speaks_for spec number) (map attached_as hists) ≡ (a.table == number)
one-speaks spec number [] a pairs found = absurd (cc)
one-speaks spec number (t ∷ hists) a pairs found =
    by (is_same spec t.spec) refl
    (one-speaks spec number hists a (λ j k d less within. pairs (suc j) (suc k) d (omega (arith, less)) (omega (arith, within)))) found
  where
    by : (same : Bool) → is_same spec t.spec ≡ same
        → (find (says_same spec) (map attached_as hists) ≡ Some a → list_any (speaks_for spec number) (map attached_as hists) ≡ (a.table == number))
        → (if same then Some (attached_as t) else find (says_same spec) (map attached_as hists)) ≡ Some a
        → list_any (speaks_for spec number) (map attached_as (t ∷ hists)) ≡ (a.table == number)
    by true same rest found =
        rw (same, none-speaks spec number hists (λ k d within other. pairs 0 (suc k) d (omega arith) (omega (arith, within)) (both-same spec _ _ same other)))
        (or-none (t.table == number) ∙ ap (λ (b : AttachedHist). b.table == number) (same_Some (attached_as t) a found))
    by false same rest found = rw same (rest found)

-- a test finds one exactly if some value passes
pub some-found : {A : Type 0} (test : A → Bool) (xs : List A) → is_some (find test xs) ≡ list_any test xs
some-found test [] = refl
some-found {A = A} test (x ∷ xs) = by (test x) (some-found test xs)
  where
    by : (passes : Bool) → is_some (find test xs) ≡ list_any test xs → is_some (if passes then Some x else find test xs) ≡ (passes || list_any test xs)
    by true rest = refl
    by false rest = rest
