-- What is wrong with the tokens of a tree is what is wrong with its tests.
use Rattle.std.proofs.Common.{◌≡◌, ◌↔◌, ℕ, suc, Bool, true, false, List, [], ◌∷◌, ◌++◌, length, map, Option, None, Some, refl, sym, ap, ◌∙◌, subst, append_assoc, append-nil}
use Rattle.std.specs.Prelude.{All}
use Rattle.std.proofs.lemmas.List.Elements.{All-nil, All-cons, All-head, All-tail}
use Rattle.trace_format.specs.declared.event.Field.{Field}
use Rattle.trace_filter.specs.declared.token.Comparison.{Comparison}
use Rattle.trace_filter.specs.declared.fault.FilterFault.{FilterFault}
use Rattle.trace_filter.specs.declared.fault.FilterFault.TheVariants.{TooLong, TooDeep, FilterSyntax, NoSuchField, WrongOperator, Memory}
use Rattle.trace_filter.specs.declared.fault.FilterCause.TheVariants as cause
use Rattle.trace_filter.specs.Tokens.{Literal, Token, Open, Close, Bang, AndAnd, OrOr, Compare, Name, Value, Illegible, Spot, tokens_of}
use Rattle.trace_filter.specs.Grammar.{Expr, AllOf, Or, Conj, Only, And, Unary, Not, Group, Test, expr_tokens, conj_tokens, unary_tokens, Spells}
use Rattle.trace_filter.specs.Fields.{is_text_named, takes_at, fits_at, unless, or_later, test_fault, first_misfit}
use Rattle.trace_filter.specs.Fits.{OneTest, tests_of, conj_tests, unary_tests, TestFits, EachTestFits, HasFault, TestOffsets, test_offsets, IsAt, IsFirstMisfit}
use Rattle.trace_filter.proofs.Options.{some_is}
use Rattle.trace_filter.proofs.Truths.{unless_true}
use Rattle.trace_filter.proofs.TestedMoves.{InTests, tree_in_tests}

-- ---- the tests of a tree are those of its tokens

abbrev tests_in : List Token → List OneTest
tests_in [] = []
tests_in (Open ∷ tokens) = tests_in tokens
tests_in (Close ∷ tokens) = tests_in tokens
tests_in (Bang ∷ tokens) = tests_in tokens
tests_in (AndAnd ∷ tokens) = tests_in tokens
tests_in (OrOr ∷ tokens) = tests_in tokens
tests_in (Name name ∷ Compare by ∷ Value literal ∷ tokens) = record { name = name; comparison = by; literal = literal } ∷ tests_in tokens
tests_in (token ∷ tokens) = []

mutual
  expr_tests_in : (e : Expr) (rest : List Token) → tests_in (expr_tokens e ++ rest) ≡ tests_of e ++ tests_in rest
  expr_tests_in (AllOf c) rest = conj_tests_in c rest
  expr_tests_in (Or e c) rest =
      ap tests_in (append_assoc (expr_tokens e) (OrOr ∷ conj_tokens c) rest) ∙ expr_tests_in e (OrOr ∷ (conj_tokens c ++ rest))
      ∙ ap (λ tests. tests_of e ++ tests) (conj_tests_in c rest) ∙ sym (append_assoc (tests_of e) (conj_tests c) (tests_in rest))

  conj_tests_in : (c : Conj) (rest : List Token) → tests_in (conj_tokens c ++ rest) ≡ conj_tests c ++ tests_in rest
  conj_tests_in (Only u) rest = unary_tests_in u rest
  conj_tests_in (And c u) rest =
      ap tests_in (append_assoc (conj_tokens c) (AndAnd ∷ unary_tokens u) rest) ∙ conj_tests_in c (AndAnd ∷ (unary_tokens u ++ rest))
      ∙ ap (λ tests. conj_tests c ++ tests) (unary_tests_in u rest) ∙ sym (append_assoc (conj_tests c) (unary_tests u) (tests_in rest))

  unary_tests_in : (u : Unary) (rest : List Token) → tests_in (unary_tokens u ++ rest) ≡ unary_tests u ++ tests_in rest
  unary_tests_in (Not u) rest = unary_tests_in u rest
  unary_tests_in (Group e) rest = ap tests_in (append_assoc (expr_tokens e) (Close ∷ []) rest) ∙ expr_tests_in e (Close ∷ rest)
  unary_tests_in (Test name by literal) rest = refl

tree_tests : (e : Expr) → tests_of e ≡ tests_in (expr_tokens e)
tree_tests e = sym (ap tests_in (sym (append-nil (expr_tokens e))) ∙ expr_tests_in e [] ∙ append-nil (tests_of e))

-- ---- tests with the offsets of their tokens

record Located : Type 0 where
  test : OneTest
  at : ℕ
  operator_at : ℕ
  value_at : ℕ

abbrev tests_at : List Located → List OneTest
tests_at located = map (λ p. p.test) located

abbrev offsets_at : List Located → TestOffsets
offsets_at located = record { names = map (λ p. p.at) located; operators = map (λ p. p.operator_at) located; values = map (λ p. p.value_at) located }

module _ (fields : List Field) where
  -- what is wrong with a test, by what its name means
  abbrev fault_by : Located → Option Bool → Option FilterFault
  fault_by p has_text = test_fault has_text p.at (record { at = p.operator_at; token = Compare p.test.comparison }) (record { at = p.value_at; token = Value p.test.literal })

  abbrev fault_of : Located → Option FilterFault
  fault_of p = fault_by p (is_text_named fields p.test.name)

  abbrev first_of : List Located → Option FilterFault
  first_of [] = None
  first_of (p ∷ located) = or_later (fault_of p) (first_of located)

  -- the tests, their offsets and the first fault are those of some tests with offsets
  record InPlaces (tests : List OneTest) (offsets : TestOffsets) (fault : Option FilterFault) : Type 0 where
    located : List Located
    tests_are : tests ≡ tests_at located
    offsets_are : offsets ≡ offsets_at located
    fault_is : fault ≡ first_of located

  abbrev SpotsLocated : List Spot → Type 0
  SpotsLocated spots = InPlaces (tests_in (tokens_of spots)) (test_offsets spots) (first_misfit fields spots)

  abbrev LocatedIfInTests : List Spot → Type 0
  LocatedIfInTests spots = InTests (tokens_of spots) → SpotsLocated spots

  one_test : (name : List ℕ) (at : ℕ) (by : Comparison) (by_at : ℕ) (literal : Literal) (value_at : ℕ) (rest : List Spot) → SpotsLocated rest
      → SpotsLocated (record { at = at; token = Name name } ∷ record { at = by_at; token = Compare by } ∷ record { at = value_at; token = Value literal } ∷ rest)
  one_test name at by by_at literal value_at rest later =
      let test : OneTest = record { name = name; comparison = by; literal = literal } in
      let p : Located = record { test = test; at = at; operator_at = by_at; value_at = value_at } in
      record {
        located = p ∷ later.located;
        tests_are = ap (λ tests. test ∷ tests) later.tests_are;
        offsets_are = λ i. record { names = at ∷ (later.offsets_are i).names; operators = by_at ∷ (later.offsets_are i).operators; values = value_at ∷ (later.offsets_are i).values };
        fault_is = ap (or_later (fault_of p)) later.fault_is;
      }

  last_token : (token : Token) (at : ℕ) → LocatedIfInTests [] → LocatedIfInTests (record { at = at; token = token } ∷ [])
  last_token Open at later h = later h
  last_token Close at later h = later h
  last_token Bang at later h = later h
  last_token AndAnd at later h = later h
  last_token OrOr at later h = later h
  last_token (Compare by) at later h = absurd h
  last_token (Name name) at later h = absurd h
  last_token (Value literal) at later h = absurd h
  last_token Illegible at later h = absurd h

  two_tokens : (token : Token) (at : ℕ) (next : Token) (next_at : ℕ) → LocatedIfInTests (record { at = next_at; token = next } ∷ []) → LocatedIfInTests (record { at = at; token = token } ∷ record { at = next_at; token = next } ∷ [])
  two_tokens Open at next next_at later h = later h
  two_tokens Close at next next_at later h = later h
  two_tokens Bang at next next_at later h = later h
  two_tokens AndAnd at next next_at later h = later h
  two_tokens OrOr at next next_at later h = later h
  two_tokens (Compare by) at next next_at later h = absurd h
  two_tokens (Name name) at (Compare by) next_at later h = absurd h
  two_tokens (Name name) at _ next_at later h = absurd h
  two_tokens (Value literal) at next next_at later h = absurd h
  two_tokens Illegible at next next_at later h = absurd h

  more_tokens : (token : Token) (at : ℕ) (next : Token) (next_at : ℕ) (third : Token) (third_at : ℕ) (rest : List Spot) → LocatedIfInTests (record { at = next_at; token = next } ∷ record { at = third_at; token = third } ∷ rest) → LocatedIfInTests rest
      → LocatedIfInTests (record { at = at; token = token } ∷ record { at = next_at; token = next } ∷ record { at = third_at; token = third } ∷ rest)
  more_tokens Open at next next_at third third_at rest later latest h = later h
  more_tokens Close at next next_at third third_at rest later latest h = later h
  more_tokens Bang at next next_at third third_at rest later latest h = later h
  more_tokens AndAnd at next next_at third third_at rest later latest h = later h
  more_tokens OrOr at next next_at third third_at rest later latest h = later h
  more_tokens (Compare by) at next next_at third third_at rest later latest h = absurd h
  more_tokens (Name name) at (Compare by) next_at (Value literal) third_at rest later latest h = one_test name at by next_at literal third_at rest (latest h)
  more_tokens (Name name) at _ next_at _ third_at rest later latest h = absurd h
  more_tokens (Value literal) at next next_at third third_at rest later latest h = absurd h
  more_tokens Illegible at next next_at third third_at rest later latest h = absurd h

  in_places : (spots : List Spot) → LocatedIfInTests spots
  in_places [] h = record { located = []; tests_are = refl; offsets_are = refl; fault_is = refl }
  in_places (spot ∷ []) h = last_token spot.token spot.at (in_places []) h
  in_places (spot ∷ next ∷ []) h = two_tokens spot.token spot.at next.token next.at (in_places (next ∷ [])) h
  in_places (spot ∷ next ∷ third ∷ rest) h = more_tokens spot.token spot.at next.token next.at third.token third.at rest (in_places (next ∷ third ∷ rest)) (in_places rest) h

  tree_located : (spots : List Spot) (tree : Expr) → Spells (tokens_of spots) tree → InPlaces (tests_of tree) (test_offsets spots) (first_misfit fields spots)
  tree_located spots tree spelled =
      subst (λ tests. InPlaces tests (test_offsets spots) (first_misfit fields spots)) (sym (tree_tests tree ∙ ap tests_in spelled)) (in_places spots (subst InTests spelled (tree_in_tests tree)))

  -- ---- one test

  both_none : (o later : Option FilterFault) → or_later o later ≡ None → (o ≡ None) × (later ≡ None)
  both_none None later h = (refl, h)
  both_none (Some fault) later h = absurd (cc)

  fits_none : (p : Located) → TestFits fields p.test → fault_of p ≡ None
  fits_none p fit =
      ap (fault_by p) fit.named
      ∙ (λ i. or_later (unless (fit.takes i) (WrongOperator p.operator_at)) (unless (fit.fits i) (FilterSyntax p.value_at cause.Value)))

  none_fits : (p : Located) → fault_of p ≡ None → TestFits fields p.test
  none_fits p h = by (is_text_named fields p.test.name) refl h
    where
      by : (o : Option Bool) → is_text_named fields p.test.name ≡ o → fault_by p o ≡ None → TestFits fields p.test
      by None e h = absurd (cc)
      by (Some text) e h =
          let parts = both_none (unless (takes_at text p.test.comparison) (WrongOperator p.operator_at)) (unless (fits_at text p.test.literal) (FilterSyntax p.value_at cause.Value)) h in
          record {
            has_text = text;
            named = e;
            takes = unless_true (takes_at text p.test.comparison) (WrongOperator p.operator_at) parts.0;
            fits = unless_true (fits_at text p.test.literal) (FilterSyntax p.value_at cause.Value) parts.1;
          }

  abbrev WrongFirst : Located → List Located → FilterFault → Type 0
  WrongFirst p located fault = HasFault fields p.test fault × IsAt (offsets_at (p ∷ located)) 0 fault

  fault_wrong : (p : Located) (located : List Located) (fault : FilterFault) → fault_of p ≡ Some fault → WrongFirst p located fault
  fault_wrong p located fault h = by (is_text_named fields p.test.name) refl h
    where
      by_test : (text takes fits : Bool) → is_text_named fields p.test.name ≡ Some text → takes_at text p.test.comparison ≡ takes → fits_at text p.test.literal ≡ fits
          → or_later (unless takes (WrongOperator p.operator_at)) (unless fits (FilterSyntax p.value_at cause.Value)) ≡ Some fault → WrongFirst p located fault
      by_test text true true e t f h = absurd (cc)
      by_test text true false e t f h = subst (WrongFirst p located) (some_is h) ((record { has_text = text; named = e; takes = t; refused = f }, refl), refl)
      by_test text false fits e t f h = subst (WrongFirst p located) (some_is h) (record { has_text = text; named = e; refused = t }, refl)

      by : (o : Option Bool) → is_text_named fields p.test.name ≡ o → fault_by p o ≡ Some fault → WrongFirst p located fault
      by None e h = subst (WrongFirst p located) (some_is h) (e, refl)
      by (Some text) e h = by_test text (takes_at text p.test.comparison) (fits_at text p.test.literal) e refl refl h

  wrong_fault : (p : Located) (located : List Located) (fault : FilterFault) → HasFault fields p.test fault → IsAt (offsets_at (p ∷ located)) 0 fault → fault_of p ≡ Some fault
  wrong_fault p located TooLong w at = absurd w
  wrong_fault p located TooDeep w at = absurd w
  wrong_fault p located Memory w at = absurd w
  wrong_fault p located (NoSuchField offset) w at =
      ap (fault_by p) w ∙ ap (λ x. Some (NoSuchField x)) (some_is at)
  wrong_fault p located (WrongOperator offset) w at =
      ap (fault_by p) w.named
      ∙ ap (λ b. or_later (unless b (WrongOperator p.operator_at)) (unless (fits_at w.has_text p.test.literal) (FilterSyntax p.value_at cause.Value))) w.refused ∙ ap (λ x. Some (WrongOperator x)) (some_is at)
  wrong_fault p located (FilterSyntax offset why) w at =
      ap (fault_by p) w.0.named
      ∙ (λ i. or_later (unless (w.0.takes i) (WrongOperator p.operator_at)) (unless (w.0.refused i) (FilterSyntax p.value_at cause.Value))) ∙ (λ i. Some (FilterSyntax (some_is at i) (sym w.1 i)))

  -- ---- all tests

  none_all_fit : (located : List Located) → first_of located ≡ None → All (TestFits fields) (tests_at located)
  none_all_fit [] h = All-nil (TestFits fields)
  none_all_fit (p ∷ located) h =
      let parts = both_none (fault_of p) (first_of located) h in
      All-cons (TestFits fields) p.test (tests_at located) (none_fits p parts.0) (none_all_fit located parts.1)

  all_fit_none : (located : List Located) → All (TestFits fields) (tests_at located) → first_of located ≡ None
  all_fit_none [] h = refl
  all_fit_none (p ∷ located) h =
      ap (λ o. or_later o (first_of located)) (fits_none p (All-head (TestFits fields) p.test (tests_at located) h)) ∙ all_fit_none located (All-tail (TestFits fields) p.test (tests_at located) h)

  one_later : (p : Located) (located : List Located) (before : ℕ) (fault : FilterFault) → IsAt (offsets_at located) before fault → IsAt (offsets_at (p ∷ located)) (suc before) fault
  one_later p located before TooLong h = h
  one_later p located before TooDeep h = h
  one_later p located before (FilterSyntax at why) h = h
  one_later p located before (NoSuchField at) h = h
  one_later p located before (WrongOperator at) h = h
  one_later p located before Memory h = h

  one_earlier : (p : Located) (located : List Located) (before : ℕ) (fault : FilterFault) → IsAt (offsets_at (p ∷ located)) (suc before) fault → IsAt (offsets_at located) before fault
  one_earlier p located before TooLong h = h
  one_earlier p located before TooDeep h = h
  one_earlier p located before (FilterSyntax at why) h = h
  one_earlier p located before (NoSuchField at) h = h
  one_earlier p located before (WrongOperator at) h = h
  one_earlier p located before Memory h = h

  fault_found : (located : List Located) (fault : FilterFault) → first_of located ≡ Some fault → IsFirstMisfit fields (tests_at located) (offsets_at located) fault
  fault_found [] fault h = absurd (cc)
  fault_found (p ∷ located) fault h = by (fault_of p) (fault_found located fault) refl h
    where
      by : (o : Option FilterFault) → (first_of located ≡ Some fault → IsFirstMisfit fields (tests_at located) (offsets_at located) fault)
          → fault_of p ≡ o → or_later o (first_of located) ≡ Some fault → IsFirstMisfit fields (tests_at (p ∷ located)) (offsets_at (p ∷ located)) fault
      by None later e h =
          let found = later h in
          record {
            front = p.test ∷ found.front;
            test = found.test;
            back = found.back;
            cut = ap (λ tests. p.test ∷ tests) found.cut;
            fit = All-cons (TestFits fields) p.test found.front (none_fits p e) found.fit;
            wrong = found.wrong;
            offset = one_later p located (length found.front) fault found.offset;
          }
      by (Some here) later e h =
          let is = fault_wrong p located fault (e ∙ h) in
          record { front = []; test = p.test; back = tests_at located; cut = refl; fit = All-nil (TestFits fields); wrong = is.0; offset = is.1 }

  found_fault : (located : List Located) (fault : FilterFault) (front : List OneTest) (test : OneTest) (back : List OneTest) → tests_at located ≡ front ++ test ∷ back → All (TestFits fields) front
      → HasFault fields test fault → IsAt (offsets_at located) (length front) fault → first_of located ≡ Some fault
  found_fault [] fault [] test back cut fit wrong offset = absurd (cc)
  found_fault [] fault (t ∷ front) test back cut fit wrong offset = absurd (cc)
  found_fault (p ∷ located) fault [] test back cut fit wrong offset =
      let same : p.test ≡ test = cc in
      ap (λ o. or_later o (first_of located)) (wrong_fault p located fault (subst (λ t. HasFault fields t fault) (sym same) wrong) offset)
  found_fault (p ∷ located) fault (t ∷ front) test back cut fit wrong offset =
      let same : p.test ≡ t = cc in
      let rest : tests_at located ≡ front ++ test ∷ back = cc in
      ap (λ o. or_later o (first_of located)) (fits_none p (subst (TestFits fields) (sym same) (All-head (TestFits fields) t front fit)))
      ∙ found_fault located fault front test back rest (All-tail (TestFits fields) t front fit) wrong (one_earlier p located (length front) fault offset)

  -- ---- the laws

  pub fits_as_its_tree : (spots : List Spot) (tree : Expr) → Spells (tokens_of spots) tree → (first_misfit fields spots ≡ None) ↔ EachTestFits fields tree
  fits_as_its_tree spots tree spelled =
      let r = tree_located spots tree spelled in
      ((λ h. subst (All (TestFits fields)) (sym r.tests_are) (none_all_fit r.located (sym r.fault_is ∙ h))), (λ fit. r.fault_is ∙ all_fit_none r.located (subst (All (TestFits fields)) r.tests_are fit)))

  pub misfit_is_the_first : (spots : List Spot) (tree : Expr) (fault : FilterFault) → Spells (tokens_of spots) tree
      → (first_misfit fields spots ≡ Some fault) ↔ IsFirstMisfit fields (tests_of tree) (test_offsets spots) fault
  misfit_is_the_first spots tree fault spelled =
      let r = tree_located spots tree spelled in (
        (λ h. subst (λ tests. IsFirstMisfit fields tests (test_offsets spots) fault) (sym r.tests_are) (subst (λ offsets. IsFirstMisfit fields (tests_at r.located) offsets fault) (sym r.offsets_are) (fault_found r.located fault (sym r.fault_is ∙ h)))),
        (λ is. r.fault_is ∙ found_fault r.located fault is.front is.test is.back (sym r.tests_are ∙ is.cut) is.fit is.wrong (subst (λ offsets. IsAt offsets (length is.front) fault) r.offsets_are is.offset)),
      )
