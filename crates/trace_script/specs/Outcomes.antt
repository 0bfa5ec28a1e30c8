-- What a reading function returned, against what reading gives.
use Rattle.std.specs.Prelude.{◌≡◌, Option, Some, None, Result, Ok, Err}
use Rattle.trace_script.specs.declared.fault.ScriptFault.{ScriptFault}
use Rattle.trace_script.specs.declared.fault.LineError.{LineError}
use Rattle.trace_script.specs.declared.fault.LineError.TheVariants.{Fault, Memory}

-- a value, or this fault where there is none
abbrev pub or_fault : {A : Type 0} → ScriptFault → Option A → Result A ScriptFault
or_fault fault None = Err fault
or_fault fault (Some value) = Ok value

infixl 10 ◌>>=◌
-- what is read, and then what follows from it
abbrev pub ◌>>=◌ : {A B : Type 0} → Result A ScriptFault → (A → Result B ScriptFault) → Result B ScriptFault
(Ok value) >>= next = next value
(Err fault) >>= next = Err fault

-- reading fails so, or memory was refused
abbrev pub Fails : {B : Type 0} → LineError → Result B ScriptFault → Type 0
Fails Memory read = Unit {0}
Fails (Fault fault) read = read ≡ Err fault

-- what was returned, seen so, is what reading gives, or memory was refused
abbrev pub Gives : {A B : Type 0} → (A → B) → Result A LineError → Result B ScriptFault → Type 0
Gives seen (Ok value) read = read ≡ Ok (seen value)
Gives seen (Err error) read = Fails error read
