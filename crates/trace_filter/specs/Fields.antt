-- Which tests fit what their names mean in an event, and the first of a filter's tests that does not.
use Rattle.std.specs.Prelude.{ℕ, Bool, true, false, List, [], ◌∷◌, Option, None, Some, is_some, option_map}
use Rattle.trace_format.specs.declared.event.Field.{Field}
use Rattle.trace_format.specs.Operands.{operand_named, is_text}
use Rattle.trace_lex.specs.Numbers.{number_of}
use Rattle.trace_filter.specs.declared.token.Comparison.{Comparison}
use Rattle.trace_filter.specs.declared.token.Comparison.TheVariants as comparison
use Rattle.trace_filter.specs.declared.fault.FilterFault.{FilterFault}
use Rattle.trace_filter.specs.declared.fault.FilterFault.TheVariants.{FilterSyntax, NoSuchField, WrongOperator}
use Rattle.trace_filter.specs.declared.fault.FilterCause.TheVariants as cause
use Rattle.trace_filter.specs.Tokens.{Literal, Word, Quoted, Token, Compare, Name, Value, Spot}

-- whether what a name means in the event is a text, if it means something
abbrev pub is_text_named : List Field → List ℕ → Option Bool
is_text_named fields name = option_map is_text (operand_named fields name)

-- texts are compared by `==`, `!=` and `~`; numbers by all but `~`
abbrev pub takes_at : Bool → Comparison → Bool
takes_at true comparison.Eq = true
takes_at true comparison.Ne = true
takes_at true comparison.Le = false
takes_at true comparison.Ge = false
takes_at true comparison.Lt = false
takes_at true comparison.Gt = false
takes_at true comparison.BitAnd = false
takes_at true comparison.Glob = true
takes_at false comparison.Eq = true
takes_at false comparison.Ne = true
takes_at false comparison.Le = true
takes_at false comparison.Ge = true
takes_at false comparison.Lt = true
takes_at false comparison.Gt = true
takes_at false comparison.BitAnd = true
takes_at false comparison.Glob = false

-- a text field takes any value, a number only a bare word that is a NUMBER
abbrev pub fits_at : Bool → Literal → Bool
fits_at true literal = true
fits_at false (Word bytes) = is_some (number_of bytes)
fits_at false (Quoted bytes) = false

abbrev pub unless : Bool → FilterFault → Option FilterFault
unless true fault = None
unless false fault = Some fault

abbrev pub or_later : Option FilterFault → Option FilterFault → Option FilterFault
or_later (Some fault) later = Some fault
or_later None later = later

-- an operator that the field does not take
abbrev pub operator_fault : Bool → Token → ℕ → Option FilterFault
operator_fault text (Compare by) at = unless (takes_at text by) (WrongOperator at)
operator_fault text _ at = None

-- a value that does not fit: it is no NUMBER, and the field needs one
abbrev pub value_fault : Bool → Token → ℕ → Option FilterFault
value_fault text (Value literal) at = unless (fits_at text literal) (FilterSyntax at cause.Value)
value_fault text _ at = None

-- what is wrong with a test: its field, then its operator, then its value
abbrev pub test_fault : Option Bool → ℕ → Spot → Spot → Option FilterFault
test_fault None at operator value = Some (NoSuchField at)
test_fault (Some text) at operator value = or_later (operator_fault text operator.token operator.at) (value_fault text value.token value.at)

-- the same of the test that begins with a token, if one does: a name, an operator and a value
abbrev pub fault_of_test : List Field → Token → ℕ → List Spot → Option FilterFault
fault_of_test fields (Name name) at (operator ∷ value ∷ spots) = test_fault (is_text_named fields name) at operator value
fault_of_test fields _ at spots = None

-- what is wrong with the first test, from left to right, that does not fit its field
abbrev pub first_misfit : List Field → List Spot → Option FilterFault
first_misfit fields [] = None
first_misfit fields (spot ∷ spots) = or_later (fault_of_test fields spot.token spot.at spots) (first_misfit fields spots)
