-- The offsets of a filter's faults are in the filter's text.
use Rattle.std.proofs.Common.{◌≡◌, ℕ, zero, suc, ◌+◌, ◌-◌, ◌≤◌, Bool, true, false, if◌then◌else◌, List, [], ◌∷◌, ◌++◌, length, reverse, Option, Some, None, ◌⊎◌, inl, inr, subst, arith}
use Rattle.std.specs.List.{prefix_len, AllByRecursion}
use Rattle.std.proofs.lemmas.List.{length-take}
use Rattle.std.proofs.Math.Nat.{min-le_right}
use Rattle.trace_format.specs.declared.event.Field.{Field}
use Rattle.trace_format.specs.Definitions.{Definition}
use Rattle.trace_lex.specs.Blanks.{is_blank, without_end}
use Rattle.trace_filter.specs.declared.fault.FilterFault.{FilterFault}
use Rattle.trace_filter.specs.declared.fault.FilterFault.TheVariants.{TooLong, TooDeep, FilterSyntax, NoSuchField, WrongOperator, Memory}
use Rattle.trace_filter.specs.declared.fault.FilterCause.{FilterCause}
use Rattle.trace_filter.specs.declared.fault.FilterCause.TheVariants as cause
use Rattle.trace_filter.specs.Grammar.{IsMisplaced, EndsEarly}
use Rattle.trace_filter.specs.Tokens.{Token, Open, Close, Bang, AndAnd, OrOr, Compare, Name, Value, Illegible, piece_of, is_comparison, Spot, spots_from, spots_of}
use Rattle.trace_filter.specs.Fields.{is_text_named, takes_at, fits_at, unless, or_later, operator_fault, value_fault, test_fault, fault_of_test, first_misfit}
use Rattle.trace_filter.specs.Filters.{misfit_of, IsWrong, Misfits, IsTold}
use Rattle.trace_trigger.specs.Frames.{IsWithin}

-- ---- tokens begin in the text

abbrev IsSpotWithin : ℕ → Spot → Type 0
IsSpotWithin len spot = spot.at ≤ len

spots_within : (len : ℕ) (value_due : Bool) (skip at : ℕ) (bs : List ℕ) → at + length bs ≤ len → AllByRecursion (IsSpotWithin len) (spots_from value_due skip at bs)
spots_within len value_due skip at [] h = tt
spots_within len value_due (suc skip) at (b ∷ bs) h = spots_within len value_due skip (at + 1) bs (omega (arith, h))
spots_within len value_due zero at (b ∷ bs) h =
    by (is_blank b) _ _ (spots_within len value_due 0 (at + 1) bs (omega (arith, h)))
    (spots_within len (is_comparison (piece_of value_due b bs).token) (piece_of value_due b bs).more (at + 1) bs (omega (arith, h)))
  where
    by : (blank : Bool) (ss ts : List Spot) → AllByRecursion (IsSpotWithin len) ss → AllByRecursion (IsSpotWithin len) ts
        → AllByRecursion (IsSpotWithin len) (if blank then ss else (record { at = at; token = (piece_of value_due b bs).token } ∷ ts))
    by true ss ts skipped next = skipped
    by false ss ts skipped next = (omega (arith, h), next)

-- ---- what the grammar refuses

spot_within : (len : ℕ) (front : List Spot) (spot : Spot) (back : List Spot) → AllByRecursion (IsSpotWithin len) (front ++ spot ∷ back) → spot.at ≤ len
spot_within len [] spot back all = all.0
spot_within len (first ∷ front) spot back all = spot_within len front spot back all.1

misplaced_within : (len : ℕ) (spots : List Spot) (at : ℕ) → AllByRecursion (IsSpotWithin len) spots → IsMisplaced spots at → at ≤ len
misplaced_within len spots at all is =
    let inside : is.wrong.at ≤ len = spot_within len is.front is.wrong is.back (subst (AllByRecursion (IsSpotWithin len)) is.cut all) in
    omega (arith, inside, is.at)

-- ---- tests that fit no field

abbrev IsFaultWithin : ℕ → Option FilterFault → Type 0
IsFaultWithin len None = Unit {0}
IsFaultWithin len (Some fault) = IsWithin len fault

unless_within : (len : ℕ) (fits : Bool) (fault : FilterFault) → IsWithin len fault → IsFaultWithin len (unless fits fault)
unless_within len true fault h = tt
unless_within len false fault h = h

later_within : (len : ℕ) (one later : Option FilterFault) → IsFaultWithin len one → IsFaultWithin len later → IsFaultWithin len (or_later one later)
later_within len None later h g = g
later_within len (Some fault) later h g = h

operator_within : (len : ℕ) (text : Bool) (token : Token) (at : ℕ) → at ≤ len → IsFaultWithin len (operator_fault text token at)
operator_within len text Open at h = tt
operator_within len text Close at h = tt
operator_within len text Bang at h = tt
operator_within len text AndAnd at h = tt
operator_within len text OrOr at h = tt
operator_within len text (Compare by) at h = unless_within len (takes_at text by) (WrongOperator at) h
operator_within len text (Name bytes) at h = tt
operator_within len text (Value literal) at h = tt
operator_within len text Illegible at h = tt

value_within : (len : ℕ) (text : Bool) (token : Token) (at : ℕ) → at ≤ len → IsFaultWithin len (value_fault text token at)
value_within len text Open at h = tt
value_within len text Close at h = tt
value_within len text Bang at h = tt
value_within len text AndAnd at h = tt
value_within len text OrOr at h = tt
value_within len text (Compare by) at h = tt
value_within len text (Name bytes) at h = tt
value_within len text (Value literal) at h = unless_within len (fits_at text literal) (FilterSyntax at cause.Value) h
value_within len text Illegible at h = tt

test_within : (len : ℕ) (named : Option Bool) (at : ℕ) (operator value : Spot) → at ≤ len → IsSpotWithin len operator → IsSpotWithin len value → IsFaultWithin len (test_fault named at operator value)
test_within len None at operator value h g k = h
test_within len (Some text) at operator value h g k =
    later_within len (operator_fault text operator.token operator.at) (value_fault text value.token value.at) (operator_within len text operator.token operator.at g) (value_within len text value.token value.at k)

test_of_within : (len : ℕ) (fields : List Field) (token : Token) (at : ℕ) (spots : List Spot) → at ≤ len → AllByRecursion (IsSpotWithin len) spots → IsFaultWithin len (fault_of_test fields token at spots)
test_of_within len fields (Name name) at [] h all = tt
test_of_within len fields (Name name) at (operator ∷ []) h all = tt
test_of_within len fields (Name name) at (operator ∷ value ∷ spots) h all = test_within len (is_text_named fields name) at operator value h all.0 all.1.0
test_of_within len fields Open at spots h all = tt
test_of_within len fields Close at spots h all = tt
test_of_within len fields Bang at spots h all = tt
test_of_within len fields AndAnd at spots h all = tt
test_of_within len fields OrOr at spots h all = tt
test_of_within len fields (Compare by) at spots h all = tt
test_of_within len fields (Value literal) at spots h all = tt
test_of_within len fields Illegible at spots h all = tt

misfit_within : (len : ℕ) (fields : List Field) (spots : List Spot) → AllByRecursion (IsSpotWithin len) spots → IsFaultWithin len (first_misfit fields spots)
misfit_within len fields [] all = tt
misfit_within len fields (spot ∷ spots) all =
    later_within len (fault_of_test fields spot.token spot.at spots) (first_misfit fields spots) (test_of_within len fields spot.token spot.at spots all.0 all.1) (misfit_within len fields spots all.1)

-- ---- what is told

module _ (definition : Definition) (text : List ℕ) where
  all_within : AllByRecursion (IsSpotWithin (length text)) (spots_of text)
  all_within =
      let shorter : length (without_end text) ≤ length text = omega (arith, length-take (length text - prefix_len is_blank (reverse text)) text, min-le_right (length text - prefix_len is_blank (reverse text)) (length text)) in
      spots_within (length text) false 0 0 (without_end text) (omega (arith, shorter))

  found_within : (fault : FilterFault) → misfit_of definition text ≡ Some fault → IsWithin (length text) fault
  found_within fault is = subst (IsFaultWithin (length text)) is (misfit_within (length text) definition.fields (spots_of text) all_within)

  wrong_within : (at : ℕ) → IsMisplaced (spots_of text) at ⊎ (EndsEarly (spots_of text) × (at ≡ length text)) → at ≤ length text
  wrong_within at (inl is) = misplaced_within (length text) (spots_of text) at all_within is
  wrong_within at (inr is) = omega (arith, is.1)

  syntax_within : (at : ℕ) (why : FilterCause) → IsWrong text at why ⊎ Misfits definition text (FilterSyntax at why) → at ≤ length text
  syntax_within at why (inl is) = wrong_within at is.1
  syntax_within at why (inr is) = found_within (FilterSyntax at why) is.2

  -- a filter is refused at an offset in its text
  pub told_within : (fault : FilterFault) → IsTold definition text fault → IsWithin (length text) fault
  told_within TooLong is = tt
  told_within TooDeep is = tt
  told_within (FilterSyntax at why) is = syntax_within at why is
  told_within (NoSuchField at) is = found_within (NoSuchField at) is.2
  told_within (WrongOperator at) is = found_within (WrongOperator at) is.2
  told_within Memory is = tt

-- and so in each longer one
pub within_longer : (len longer : ℕ) (fault : FilterFault) → len ≤ longer → IsWithin len fault → IsWithin longer fault
within_longer len longer TooLong more is = tt
within_longer len longer TooDeep more is = tt
within_longer len longer (FilterSyntax at why) more is = omega (arith, more, is)
within_longer len longer (NoSuchField at) more is = omega (arith, more, is)
within_longer len longer (WrongOperator at) more is = omega (arith, more, is)
within_longer len longer Memory more is = tt
