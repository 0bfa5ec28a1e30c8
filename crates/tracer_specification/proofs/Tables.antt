-- Of an instance's hist triggers two share a table if they have one name, and no others do.
use Rattle.std.proofs.Common.{◌≡◌, ◌⊎◌, inl, inr, ℕ, suc, ◌<◌, ◌==◌, Bool, true, false, if◌then◌else◌, List, [], ◌∷◌, ◌++◌, bytes_eq, Option, None, Some, refl, sym, ap, ◌∙◌, subst, arith, eq-eqb, eqb-true}
use Rattle.std.specs.List.{AllByRecursion, filter}
use Rattle.std.proofs.lemmas.Bool.{false≢true}
use Rattle.std.proofs.lemmas.Slice.Eq.{bytes_eq-Decides}
use Rattle.trace_format.specs.Definitions.{Definition}
use Rattle.trace_trigger.specs.HistSpecs.{SpecSeen}
use Rattle.tracer_specification.specs.HistTriggers.{HistTrigger, is_name_of, named_by, names_table_of, new_hist, table_or}
use Rattle.tracer_specification.proofs.Members.{IsIn, each-in}

-- ---- tests

-- a test that is symmetric
test-back : (one other : Bool) → (one ≡ true → other ≡ true) → (other ≡ true → one ≡ true) → one ≡ other
test-back true true there back = refl
test-back true false there back = absurd (false≢true (there refl))
test-back false true there back = absurd (false≢true (back refl))
test-back false false there back = refl

pub number-back : (a b : ℕ) → (a == b) ≡ (b == a)
number-back a b =
    test-back (a == b) (b == a) (λ is. eq-eqb b a (sym (eqb-true a b is))) (λ is. eq-eqb a b (sym (eqb-true b a is)))

pub number-self : (a : ℕ) → (a == a) ≡ true
number-self a = eq-eqb a a refl

pub number-other : (a b : ℕ) → a < b → (b == a) ≡ false
number-other a b less = by (b == a) refl
  where
    by : (same : Bool) → (b == a) ≡ same → same ≡ false
    by true at = absurd (omega (arith, less, eqb-true b a at))
    by false at = refl

pub name-back : (one other : Option (List ℕ)) → is_name_of one other ≡ is_name_of other one
name-back None None = refl
name-back None (Some other) = refl
name-back (Some one) None = refl
name-back (Some one) (Some other) =
    test-back (bytes_eq one other) (bytes_eq other one) (λ is. (bytes_eq-Decides other one).1 (sym ((bytes_eq-Decides one other).0 is)))
    (λ is. (bytes_eq-Decides one other).1 (sym ((bytes_eq-Decides other one).0 is)))

pub name-same : (one other : Option (List ℕ)) → is_name_of one other ≡ true → one ≡ other
name-same None other is = absurd (false≢true is)
name-same (Some one) None is = absurd (false≢true is)
name-same (Some one) (Some other) is = ap (λ (name : List ℕ). (let o : Option (List ℕ) = Some name in o)) ((bytes_eq-Decides one other).0 is)

-- ---- lists of triggers

-- each was attached, and its table made, by one of the first so many requests
pub record IsBefore (n : ℕ) (t : HistTrigger) : Type 0 where
  pub table : t.table < n
  pub number : t.number < n

abbrev pub AreMadeBefore : ℕ → List HistTrigger → Type 0
AreMadeBefore n hists = AllByRecursion (IsBefore n) hists

-- two triggers share a table just if they have one name
pub record IsApart (t later : HistTrigger) : Type 0 where
  pub tables : (later.table == t.table) ≡ is_name_of later.spec.name t.spec.name
  pub numbers : (later.number == t.number) ≡ false

abbrev pub AreApart : List HistTrigger → Type 0
AreApart [] = Unit {0}
AreApart (t ∷ hists) = AllByRecursion (IsApart t) hists × AreApart hists

pub all-filter : (P : HistTrigger → Type 0) (test : HistTrigger → Bool) (hists : List HistTrigger) → AllByRecursion P hists
    → AllByRecursion P (filter test hists)
all-filter P test [] all = tt
all-filter P test (t ∷ hists) (first, all) = by (test t) (all-filter P test hists all)
  where
    by : (keeps : Bool) → AllByRecursion P (filter test hists) → AllByRecursion P (if keeps then t ∷ filter test hists else filter test hists)
    by true rest = (first, rest)
    by false rest = rest

pub all-push : (P : HistTrigger → Type 0) (hists : List HistTrigger) (new : HistTrigger) → AllByRecursion P hists → P new
    → AllByRecursion P (hists ++ new ∷ [])
all-push P [] new all is = (is, tt)
all-push P (t ∷ hists) new (first, all) is = (first, all-push P hists new all is)

pub made-later : (n : ℕ) (hists : List HistTrigger) → AreMadeBefore n hists → AreMadeBefore (suc n) hists
made-later n [] made = tt
made-later n (t ∷ hists) (first, made) =
    let table = first.table in
    let number = first.number in
    (record { table = omega (arith, table); number = omega (arith, number) }, made-later n hists made)

pub apart-filter : (test : HistTrigger → Bool) (hists : List HistTrigger) → AreApart hists → AreApart (filter test hists)
apart-filter test [] apart = tt
apart-filter test (t ∷ hists) (first, apart) = by (test t) (apart-filter test hists apart)
  where
    by : (keeps : Bool) → AreApart (filter test hists) → AreApart (if keeps then t ∷ filter test hists else filter test hists)
    by true rest = (all-filter (IsApart t) test hists first, rest)
    by false rest = rest

pub apart-push : (hists : List HistTrigger) (new : HistTrigger) → AreApart hists → AllByRecursion (λ t. IsApart t new) hists
    → AreApart (hists ++ new ∷ [])
apart-push [] new apart all = (tt, tt)
apart-push (t ∷ hists) new (first, apart) (is, all) = (all-push (IsApart t) hists new first is, apart-push hists new apart all)

-- ---- two of them

-- they are one, or they share a table just if they have one name
pub one-or_apart : (t u : HistTrigger) (hists : List HistTrigger) → AreApart hists → IsIn t hists → IsIn u hists
    → (t ≡ u) ⊎ ((t.table == u.table) ≡ is_name_of t.spec.name u.spec.name) × ((t.number == u.number) ≡ false)
one-or_apart t u [] apart first second = absurd first
one-or_apart t u (v ∷ hists) (all, apart) (inl first) (inl second) = inl (sym first ∙ second)
one-or_apart t u (v ∷ hists) (all, apart) (inl first) (inr second) =
    let are = subst (λ (w : HistTrigger). IsApart w u) first (each-in (IsApart v) u hists all second) in
    inr (number-back t.table u.table ∙ are.tables ∙ name-back u.spec.name t.spec.name, number-back t.number u.number ∙ are.numbers)
one-or_apart t u (v ∷ hists) (all, apart) (inr first) (inl second) =
    let are = subst (λ (w : HistTrigger). IsApart w t) second (each-in (IsApart v) t hists all first) in
    inr (are.tables, are.numbers)
one-or_apart t u (v ∷ hists) (all, apart) (inr first) (inr second) = one-or_apart t u hists apart first second

-- ---- the table that a text names

-- the trigger that it is found by
pub record IsFound (spec : SpecSeen) (hists : List HistTrigger) (v : HistTrigger) : Type 0 where
  pub there : IsIn v hists
  pub names : names_table_of spec v ≡ true

pub found-in : (spec : SpecSeen) (hists : List HistTrigger) (v : HistTrigger) → named_by spec hists ≡ Some v → IsFound spec hists v
found-in spec [] v is = absurd (cc)
found-in spec (t ∷ hists) v is = by (names_table_of spec t) refl is (found-in spec hists v)
  where
    by : (names : Bool) → names_table_of spec t ≡ names → (if names then Some t else named_by spec hists) ≡ Some v
        → (named_by spec hists ≡ Some v → IsFound spec hists v) → IsFound spec (t ∷ hists) v
    by true names here rest =
        let same : t ≡ v = cc in
        record { there = inl same; names = ap (names_table_of spec) (sym same) ∙ names }
    by false names further rest =
        let found = rest further in
        record { there = inr found.there; names = found.names }

-- or that there is none
pub none-found : (spec : SpecSeen) (hists : List HistTrigger) → named_by spec hists ≡ None → AllByRecursion (λ t. names_table_of spec t ≡ false) hists
none-found spec [] is = tt
none-found spec (t ∷ hists) is = by (names_table_of spec t) refl is (none-found spec hists)
  where
    by : (names : Bool) → names_table_of spec t ≡ names → (if names then Some t else named_by spec hists) ≡ None
        → (named_by spec hists ≡ None → AllByRecursion (λ u. names_table_of spec u ≡ false) hists)
        → AllByRecursion (λ u. names_table_of spec u ≡ false) (t ∷ hists)
    by true names none rest = absurd (cc)
    by false names none rest = (names, rest none)

-- the one that it is found by has its table just if the text has its name
found-apart : (spec : SpecSeen) (hists : List HistTrigger) (v t : HistTrigger) → AreApart hists → IsFound spec hists v → IsIn t hists
    → (v.table == t.table) ≡ names_table_of spec t
found-apart spec hists v t apart found there =
    let name : spec.name ≡ v.spec.name = name-same spec.name v.spec.name found.names in
    elim (one-or_apart v t hists apart found.there there) [
      | inl same ↦ ap (λ (u : HistTrigger). v.table == u.table) (sym same) ∙ number-self v.table
          ∙ sym (ap (names_table_of spec) (sym same) ∙ found.names)
      | inr (tables, numbers) ↦ tables ∙ ap (λ (n : Option (List ℕ)). is_name_of n t.spec.name) (sym name)
    ]

-- a new trigger is apart from those that are there
pub new-apart : (number : ℕ) (event : Definition) (hists : List HistTrigger) (spec : SpecSeen) → AreMadeBefore number hists → AreApart hists
    → (t : HistTrigger) → IsIn t hists → IsApart t (new_hist number event hists spec)
new-apart number event hists spec made apart t there = record {
  tables = by (named_by spec hists) refl;
  numbers = number-other t.number number before.number;
}
  where
    before : IsBefore number t
    before = each-in (IsBefore number) t hists made there

    by : (found : Option HistTrigger) → named_by spec hists ≡ found → (table_or number found == t.table) ≡ names_table_of spec t
    by None none =
        number-other t.table number before.table ∙ sym (each-in (λ u. names_table_of spec u ≡ false) t hists (none-found spec hists none) there)
    by (Some v) found = found-apart spec hists v t apart (found-in spec hists v found) there

-- and it is made by the requests so far
pub new-before : (number : ℕ) (event : Definition) (hists : List HistTrigger) (spec : SpecSeen) → AreMadeBefore number hists
    → IsBefore (suc number) (new_hist number event hists spec)
new-before number event hists spec made = by (named_by spec hists) refl
  where
    by : (found : Option HistTrigger) → named_by spec hists ≡ found
        → IsBefore (suc number) (record { event = event; number = number; spec = spec; table = table_or number found })
    by None none = record { table = omega arith; number = omega arith }
    by (Some v) found =
        let older = each-in (IsBefore number) v hists made (found-in spec hists v found).there in
        let table = older.table in
        record { table = omega (arith, table); number = omega arith }
