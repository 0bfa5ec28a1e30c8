-- What the names of a filter mean, in order, and its tests as the program reads them, token by token. What `Filter::parse` promises is told by
-- `Fields`; that both find the same first fault is proved in proofs/Misfits.antt.
use Rattle.std.specs.Prelude.{◌≡◌, ℕ, List, [], ◌∷◌, ◌++◌, Option, None, Some}
use Rattle.std.specs.Option.{option_to_list}
use Rattle.trace_format.specs.declared.event.Field.{Field}
use Rattle.trace_format.specs.declared.operand.Operand.{Operand}
use Rattle.trace_format.specs.Operands.{operand_named, is_text}
use Rattle.trace_filter.specs.declared.fault.FilterFault.{FilterFault}
use Rattle.trace_filter.specs.declared.fault.FilterFault.TheVariants.{TooLong, TooDeep, FilterSyntax, NoSuchField, WrongOperator, Memory}
use Rattle.trace_filter.specs.declared.fault.FilterCause.TheVariants as cause
use Rattle.trace_filter.specs.Tokens.{Token, Open, Close, Bang, AndAnd, OrOr, Compare, Name, Value, Illegible, Spot}
use Rattle.trace_filter.specs.Fields.{takes_at, fits_at, unless, or_later}

-- what the names among the tokens mean, in order
abbrev pub subjects_in : List Field → List Token → List Operand
subjects_in fields [] = []
subjects_in fields (Open ∷ tokens) = subjects_in fields tokens
subjects_in fields (Close ∷ tokens) = subjects_in fields tokens
subjects_in fields (Bang ∷ tokens) = subjects_in fields tokens
subjects_in fields (AndAnd ∷ tokens) = subjects_in fields tokens
subjects_in fields (OrOr ∷ tokens) = subjects_in fields tokens
subjects_in fields (Compare by ∷ tokens) = subjects_in fields tokens
subjects_in fields (Name name ∷ tokens) = option_to_list (operand_named fields name) ++ subjects_in fields tokens
subjects_in fields (Value literal ∷ tokens) = subjects_in fields tokens
subjects_in fields (Illegible ∷ tokens) = subjects_in fields tokens

abbrev pub unless_named : Option Operand → FilterFault → Option FilterFault
unless_named (Some subject) fault = None
unless_named None fault = Some fault

-- what is wrong with a token at an offset, where the subject was named last: no such field, a wrong operator, no number
abbrev pub fault_at : List Field → Operand → Token → ℕ → Option FilterFault
fault_at fields subject Open at = None
fault_at fields subject Close at = None
fault_at fields subject Bang at = None
fault_at fields subject AndAnd at = None
fault_at fields subject OrOr at = None
fault_at fields subject (Compare by) at = unless (takes_at (is_text subject) by) (WrongOperator at)
fault_at fields subject (Name name) at = unless_named (operand_named fields name) (NoSuchField at)
fault_at fields subject (Value literal) at = unless (fits_at (is_text subject) literal) (FilterSyntax at cause.Value)
fault_at fields subject Illegible at = None

abbrev pub named_or : Option Operand → Operand → Operand
named_or None subject = subject
named_or (Some named) subject = named

-- which subject was named last behind a token
abbrev pub subject_behind : List Field → Operand → Token → Operand
subject_behind fields subject Open = subject
subject_behind fields subject Close = subject
subject_behind fields subject Bang = subject
subject_behind fields subject AndAnd = subject
subject_behind fields subject OrOr = subject
subject_behind fields subject (Compare by) = subject
subject_behind fields subject (Name name) = named_or (operand_named fields name) subject
subject_behind fields subject (Value literal) = subject
subject_behind fields subject Illegible = subject

-- the first of these faults, from left to right
abbrev pub first_fault : List Field → Operand → List Spot → Option FilterFault
first_fault fields subject [] = None
first_fault fields subject (spot ∷ spots) = or_later (fault_at fields subject spot.token spot.at) (first_fault fields (subject_behind fields subject spot.token) spots)

-- the fault is the one that is there, or memory was refused
abbrev pub IsToldAs : Option FilterFault → FilterFault → Type 0
IsToldAs there TooLong = there ≡ Some TooLong
IsToldAs there TooDeep = there ≡ Some TooDeep
IsToldAs there (FilterSyntax at why) = there ≡ Some (FilterSyntax at why)
IsToldAs there (NoSuchField at) = there ≡ Some (NoSuchField at)
IsToldAs there (WrongOperator at) = there ≡ Some (WrongOperator at)
IsToldAs there Memory = Unit {0}
