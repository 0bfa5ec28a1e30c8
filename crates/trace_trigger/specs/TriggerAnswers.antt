-- What reading a text that is written to an event's `trigger` file comes to.
use Rattle.std.specs.Prelude.{◌≡◌, Result, Ok, Err}
use Rattle.trace_trigger.specs.declared.fault.TriggerFault.{TriggerFault}
use Rattle.trace_trigger.specs.declared.fault.TextCause.{TextCause}
use Rattle.trace_trigger.specs.declared.fault.TriggerFault.TheVariants.{BadText, FilterTooLong, FilterTooDeep, TooManyKeys, TooManyValues, TooManySortKeys, FilterSyntax, NoSuchField, WrongOperator, HistSyntax, BadSize, Memory}

infixl 10 ◌>>=◌
-- what is read, and then what follows from it; the first fault is told
abbrev pub ◌>>=◌ : {A B : Type 0} → Result A TriggerFault → (A → Result B TriggerFault) → Result B TriggerFault
(Ok value) >>= next = next value
(Err fault) >>= next = Err fault

-- a fault told is the one for which the text is refused, unless memory was refused
abbrev pub IsTold : {A : Type 0} → TriggerFault → Result A TriggerFault → Type 0
IsTold (BadText cause) answer = answer ≡ Err (BadText cause)
IsTold FilterTooLong answer = answer ≡ Err FilterTooLong
IsTold FilterTooDeep answer = answer ≡ Err FilterTooDeep
IsTold TooManyKeys answer = answer ≡ Err TooManyKeys
IsTold TooManyValues answer = answer ≡ Err TooManyValues
IsTold TooManySortKeys answer = answer ≡ Err TooManySortKeys
IsTold (FilterSyntax at cause) answer = answer ≡ Err (FilterSyntax at cause)
IsTold (NoSuchField at) answer = answer ≡ Err (NoSuchField at)
IsTold (WrongOperator at cause) answer = answer ≡ Err (WrongOperator at cause)
IsTold (HistSyntax at cause) answer = answer ≡ Err (HistSyntax at cause)
IsTold BadSize answer = answer ≡ Err BadSize
IsTold Memory answer = Unit {0}

-- what a call answers is this, unless memory was refused
abbrev pub IsAnswered : {A : Type 0} → Result A TriggerFault → Result A TriggerFault → Type 0
IsAnswered (Ok value) answer = answer ≡ Ok value
IsAnswered (Err fault) answer = IsTold fault answer

-- no trigger is written so, for whatever cause
abbrev pub IsBadText : TriggerFault → Type 0
IsBadText fault = (cause : TextCause) × (fault ≡ BadText cause)
