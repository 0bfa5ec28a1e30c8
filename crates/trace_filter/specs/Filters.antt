-- Filters of an event: which texts are filters, how others are refused, and when a filter passes an emission.
use Rattle.std.specs.Prelude.{◌≡◌, ◌⊎◌, ◌<◌, ◌≤◌, ℕ, Bool, true, false, nat_lt, List, length, Option, None, Some, Result, Ok, Err}
use Rattle.trace_format.specs.Definitions.{Definition, IsDefinition}
use Rattle.trace_format.specs.declared.operand.Operand.{Operand}
use Rattle.trace_format.specs.Operands.{Emission}
use Rattle.trace_filter.specs.declared.fault.FilterFault.{FilterFault}
use Rattle.trace_filter.specs.declared.fault.FilterFault.TheVariants.{TooLong, TooDeep, FilterSyntax, NoSuchField, WrongOperator, Memory}
use Rattle.trace_filter.specs.declared.fault.FilterCause.{FilterCause}
use Rattle.trace_filter.specs.declared.syntax.Verdict.{Verdict}
use Rattle.trace_filter.specs.declared.syntax.Verdict.TheVariants.{Fine, WrongAt}
use Rattle.trace_filter.specs.declared.syntax.Verdict.TheVariants as verdicts
use Rattle.trace_lex.specs.Blanks.{trimmed}
use Rattle.trace_filter.specs.Tokens.{Spot, spots_of, tokens_of}
use Rattle.trace_filter.specs.Grammar.{Expr, Spells, IsVerdict}
use Rattle.trace_filter.specs.FilterCauses.{cause_at}
use Rattle.trace_filter.specs.Syntax.{start, reading}
use Rattle.trace_filter.specs.Fields.{first_misfit}
use Rattle.trace_filter.specs.Subjects.{subjects_in}
use Rattle.trace_filter.specs.Truth.{Holds}

-- at most 1,024 bytes between the blanks at both ends
abbrev pub IsShort : List ℕ → Type 0
IsShort text = length (trimmed text) ≤ 1024

-- what the tokens of a text come to by the grammar
abbrev pub ComesTo : List ℕ → Verdict → Type 0
ComesTo text verdict = IsVerdict (spots_of text) (length text) verdict

-- the first test of a text that does not fit its field, if there is one
abbrev pub misfit_of : Definition → List ℕ → Option FilterFault
misfit_of definition text = first_misfit definition.fields (spots_of text)

-- a text is a filter of an event: it is short, it is in the grammar, and its tests fit the event's fields
pub record IsFilter (definition : Definition) (text : List ℕ) : Type 0 where
  pub short : IsShort text
  pub syntax : ComesTo text Fine
  pub fits : misfit_of definition text ≡ None

-- a text is short and wrong at an offset, and this is what could go on there
abbrev pub IsWrong : List ℕ → ℕ → FilterCause → Type 0
IsWrong text at cause = IsShort text × ComesTo text (WrongAt at) × (cause ≡ cause_at (spots_of text) at)

-- or it is short and in the grammar, and this is the fault of its first test that does not fit
abbrev pub Misfits : Definition → List ℕ → FilterFault → Type 0
Misfits definition text fault = IsShort text × ComesTo text Fine × (misfit_of definition text ≡ Some fault)

-- a text is refused: it is too long; or short and nested too deep, wrong or no filter of the event
abbrev pub IsRefused : Definition → List ℕ → FilterFault → Type 0
IsRefused definition text TooLong = 1024 < length (trimmed text)
IsRefused definition text TooDeep = IsShort text × ComesTo text verdicts.TooDeep
IsRefused definition text (FilterSyntax at cause) = IsWrong text at cause ⊎ Misfits definition text (FilterSyntax at cause)
IsRefused definition text (NoSuchField at) = Misfits definition text (NoSuchField at)
IsRefused definition text (WrongOperator at) = Misfits definition text (WrongOperator at)
IsRefused definition text Memory = ⊥

-- a fault told is one for which the text is refused, or memory was refused
abbrev pub IsTold : Definition → List ℕ → FilterFault → Type 0
IsTold definition text TooLong = IsRefused definition text TooLong
IsTold definition text TooDeep = IsRefused definition text TooDeep
IsTold definition text (FilterSyntax at cause) = IsRefused definition text (FilterSyntax at cause)
IsTold definition text (NoSuchField at) = IsRefused definition text (NoSuchField at)
IsTold definition text (WrongOperator at) = IsRefused definition text (WrongOperator at)
IsTold definition text Memory = Unit {0}

-- a filter: its text, and what its tests are about, in order
pub record Parsed : Type 0 where
  pub text : List ℕ
  pub subjects : List Operand

-- the filter that a text is, which is one of the event: the text without blanks at both ends, and what its names mean in the event
pub record IsFilterOf (definition : Definition) (written : List ℕ) (filter : Parsed) : Type 0 where
  pub defined : IsDefinition definition
  pub is_filter : IsFilter definition written
  pub text : filter.text ≡ trimmed written
  pub subjects : filter.subjects ≡ subjects_in definition.fields (tokens_of (spots_of written))

-- some tree that the text's tokens spell holds
pub record Passes (definition : Definition) (text : List ℕ) (emission : Emission) : Type 0 where
  pub tree : Expr
  pub spelled : Spells (tokens_of (spots_of text)) tree
  pub holds : Holds definition.fields emission tree

-- what a call answers where a text is a filter, and where it is refused for a fault
abbrev pub IsOkUnlessMemory : {A : Type 0} → Result A FilterFault → Type 0
IsOkUnlessMemory (Ok filter) = Unit {0}
IsOkUnlessMemory (Err TooLong) = ⊥
IsOkUnlessMemory (Err TooDeep) = ⊥
IsOkUnlessMemory (Err (FilterSyntax at cause)) = ⊥
IsOkUnlessMemory (Err (NoSuchField at)) = ⊥
IsOkUnlessMemory (Err (WrongOperator at)) = ⊥
IsOkUnlessMemory (Err Memory) = Unit {0}

abbrev pub IsAsTold : {A : Type 0} → Result A FilterFault → FilterFault → Type 0
IsAsTold (Ok filter) fault = ⊥
IsAsTold (Err TooLong) fault = TooLong ≡ fault
IsAsTold (Err TooDeep) fault = TooDeep ≡ fault
IsAsTold (Err (FilterSyntax at cause)) fault = FilterSyntax at cause ≡ fault
IsAsTold (Err (NoSuchField at)) fault = NoSuchField at ≡ fault
IsAsTold (Err (WrongOperator at)) fault = WrongOperator at ≡ fault
IsAsTold (Err Memory) fault = Unit {0}

-- ---- all of this as one function of the text

abbrev pub answer_from : List Spot → Bool → Verdict → Option FilterFault → Parsed → Result Parsed FilterFault
answer_from spots true verdict misfit filter = Err TooLong
answer_from spots false Fine None filter = Ok filter
answer_from spots false Fine (Some fault) filter = Err fault
answer_from spots false verdicts.TooDeep misfit filter = Err TooDeep
answer_from spots false (WrongAt at) misfit filter = Err (FilterSyntax at (cause_at spots at))

abbrev pub parsed_of : Definition → List ℕ → Parsed
parsed_of definition text = record { text = trimmed text; subjects = subjects_in definition.fields (tokens_of (spots_of text)) }

-- the filter that a text is, or the fault for which it is refused
unfoldable pub answer_of : Definition → List ℕ → Result Parsed FilterFault
answer_of definition text =
    answer_from (spots_of text) (nat_lt 1024 (length (trimmed text))) (reading start (spots_of text) (length text)) (misfit_of definition text)
    (parsed_of definition text)

-- what `parse` answers is this, unless memory was refused
abbrev pub IsAnswered : Result Parsed FilterFault → Result Parsed FilterFault → Type 0
IsAnswered (Ok filter) answer = answer ≡ Ok filter
IsAnswered (Err TooLong) answer = answer ≡ Err TooLong
IsAnswered (Err TooDeep) answer = answer ≡ Err TooDeep
IsAnswered (Err (FilterSyntax at cause)) answer = answer ≡ Err (FilterSyntax at cause)
IsAnswered (Err (NoSuchField at)) answer = answer ≡ Err (NoSuchField at)
IsAnswered (Err (WrongOperator at)) answer = answer ≡ Err (WrongOperator at)
IsAnswered (Err Memory) answer = Unit {0}
