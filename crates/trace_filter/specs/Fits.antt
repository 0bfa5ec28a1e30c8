-- Which trees fit the fields of an event, and the first test of a tree that does not.
use Rattle.std.specs.Prelude.{◌≡◌, ℕ, Bool, true, false, IsTrue, List, [], ◌∷◌, ◌++◌, length, map, filter, All, slice_get, None, Some}
use Rattle.trace_format.specs.declared.event.Field.{Field}
use Rattle.trace_filter.specs.declared.token.Comparison.{Comparison}
use Rattle.trace_filter.specs.declared.fault.FilterFault.{FilterFault}
use Rattle.trace_filter.specs.declared.fault.FilterFault.TheVariants.{TooLong, TooDeep, FilterSyntax, NoSuchField, WrongOperator, Memory}
use Rattle.trace_filter.specs.declared.fault.FilterCause.TheVariants as cause
use Rattle.trace_filter.specs.Tokens.{Literal, Token, Name, Value, is_comparison, Spot}
use Rattle.trace_filter.specs.Grammar.{Expr, AllOf, Or, Conj, Only, And, Unary, Not, Group, Test}
use Rattle.trace_filter.specs.Fields.{is_text_named, takes_at, fits_at}

-- a test: a field's name, an operator and a value
pub record OneTest : Type 0 where
  pub name : List ℕ
  pub comparison : Comparison
  pub literal : Literal

-- the tests of a tree, from left to right
abbrev mutual
  pub tests_of : Expr → List OneTest
  tests_of (AllOf c) = conj_tests c
  tests_of (Or e c) = tests_of e ++ conj_tests c

  pub conj_tests : Conj → List OneTest
  conj_tests (Only u) = unary_tests u
  conj_tests (And c u) = conj_tests c ++ unary_tests u

  pub unary_tests : Unary → List OneTest
  unary_tests (Not u) = unary_tests u
  unary_tests (Group e) = tests_of e
  unary_tests (Test name comparison literal) = record { name = name; comparison = comparison; literal = literal } ∷ []

-- ---- what fits

-- the name is a field's, or `common_pid` or `common_cpu`, and what it names takes the operator and the value
pub record TestFits (fields : List Field) (test : OneTest) : Type 0 where
  pub has_text : Bool
  pub named : is_text_named fields test.name ≡ Some has_text
  pub takes : IsTrue (takes_at has_text test.comparison)
  pub fits : IsTrue (fits_at has_text test.literal)

abbrev pub EachTestFits : List Field → Expr → Type 0
EachTestFits fields tree = All (TestFits fields) (tests_of tree)

-- ---- what is wrong with a test

-- what the name means does not take the operator
pub record IsWronglyCompared (fields : List Field) (test : OneTest) : Type 0 where
  pub has_text : Bool
  pub named : is_text_named fields test.name ≡ Some has_text
  pub refused : takes_at has_text test.comparison ≡ false

-- it takes the operator, and the value does not fit it
pub record IsWronglyValued (fields : List Field) (test : OneTest) : Type 0 where
  pub has_text : Bool
  pub named : is_text_named fields test.name ≡ Some has_text
  pub takes : IsTrue (takes_at has_text test.comparison)
  pub refused : fits_at has_text test.literal ≡ false

-- the test has the fault: its name means nothing in the event, or else its operator or its value is wrong
abbrev pub HasFault : List Field → OneTest → FilterFault → Type 0
HasFault fields test TooLong = ⊥
HasFault fields test TooDeep = ⊥
HasFault fields test (FilterSyntax at why) = IsWronglyValued fields test × (why ≡ cause.Value)
HasFault fields test (NoSuchField at) = is_text_named fields test.name ≡ None
HasFault fields test (WrongOperator at) = IsWronglyCompared fields test
HasFault fields test Memory = ⊥

-- ---- where it is wrong

abbrev pub is_name_token : Token → Bool
is_name_token (Name bytes) = true
is_name_token _ = false

abbrev pub is_value_token : Token → Bool
is_value_token (Value literal) = true
is_value_token _ = false

-- the offsets of the tokens of one kind, in order
abbrev pub offsets_of : (Token → Bool) → List Spot → List ℕ
offsets_of is spots = map (λ spot. spot.at) (filter (λ spot. is spot.token) spots)

-- where the names, the operators and the values of a text are; in a text that spells a tree each test has one of each, so the n-th of each
-- are those of the n-th test
pub record TestOffsets : Type 0 where
  pub names : List ℕ
  pub operators : List ℕ
  pub values : List ℕ

abbrev pub test_offsets : List Spot → TestOffsets
test_offsets spots = record { names = offsets_of is_name_token spots; operators = offsets_of is_comparison spots; values = offsets_of is_value_token spots }

-- the fault is told at the name, the operator or the value of the test that has so many before it
abbrev pub IsAt : TestOffsets → ℕ → FilterFault → Type 0
IsAt offsets before TooLong = ⊥
IsAt offsets before TooDeep = ⊥
IsAt offsets before (FilterSyntax at why) = slice_get offsets.values before ≡ Some at
IsAt offsets before (NoSuchField at) = slice_get offsets.names before ≡ Some at
IsAt offsets before (WrongOperator at) = slice_get offsets.operators before ≡ Some at
IsAt offsets before Memory = ⊥

-- the tests before one fit, and this one has the fault
pub record IsFirstMisfit (fields : List Field) (tests : List OneTest) (offsets : TestOffsets) (fault : FilterFault) : Type 0 where
  pub front : List OneTest
  pub test : OneTest
  pub back : List OneTest
  pub cut : tests ≡ front ++ test ∷ back
  pub fit : All (TestFits fields) front
  pub wrong : HasFault fields test fault
  pub offset : IsAt offsets (length front) fault
