-- What `HistTexts` says of trigger strings, as theorems that speak of no program.
use Rattle.std.specs.Prelude.{◌≡◌, ◌≢◌, ◌↔◌, ℕ, List, Option, Some, Ok, Err}
use Rattle.trace_format.specs.Definitions.{Definition}
use Rattle.trace_trigger.specs.declared.fault.TriggerFault.{TriggerFault}
use Rattle.trace_trigger.specs.declared.fault.TriggerFault.TheVariants.{HistSyntax, BadText}
use Rattle.trace_trigger.specs.declared.fault.HistCause.{HistCause}
use Rattle.trace_trigger.specs.declared.fault.TextCause.{TextCause}
use Rattle.trace_trigger.specs.HistOffsets.{hist_cause}
use Rattle.trace_trigger.specs.HistSpecs.{SpecSeen}
use Rattle.trace_trigger.specs.HistTexts.{IsHistText, spec_of}
use Rattle.trace_trigger.specs.HistGrammar.{Setting, IsWritten, Says}
use Rattle.trace_trigger.specs.HistFaultOffsets.{Cut, IsLeftmostWrong}
use Rattle.trace_trigger.specs.HistCauses.{IsWrongFor}
use Rattle.trace_trigger.specs.HistRefusals.{IsRefusedAs}

-- a string that begins as that of a hist trigger says this of one exactly if it is written so: lawful settings that come to this, within the
-- limits, with names of the event and a filter of it
abbrev pub OkIsWritten : Type 0
OkIsWritten = (definition : Definition) → (text : List ℕ) → (spec : SpecSeen) → IsHistText text → (spec_of definition text ≡ Ok spec) ↔ Says definition text spec

-- it is refused for its syntax at an offset exactly if that is the leftmost offset where it is wrong, whatever the event; and the cause told is what
-- is wrong there
abbrev pub SyntaxIsLeftmost : Type 0
SyntaxIsLeftmost = (definition : Definition) → (text : List ℕ) → (at : ℕ) → (cause : HistCause) → IsHistText text
    → (spec_of definition text ≡ Err (HistSyntax at cause)) ↔ (IsLeftmostWrong text at × (hist_cause text at ≡ Some cause))

-- there is a cause at each such offset
abbrev pub LeftmostHasCause : Type 0
LeftmostHasCause = (text : List ℕ) → (at : ℕ) → IsHistText text → IsLeftmostWrong text at → (cause : HistCause) × (hist_cause text at ≡ Some cause)

-- and the text is wrong for it there, by the grammar
abbrev pub CauseIsOfGrammar : Type 0
CauseIsOfGrammar = (text : List ℕ) → (cut : Cut text) → (at : ℕ) → (why : HistCause) → hist_cause text at ≡ Some why → IsWrongFor cut why at

-- no lawful settings, with or without a filter's text, can be written so
abbrev pub IsUnwritten : List ℕ → Type 0
IsUnwritten text = (settings : List Setting) → (condition : Option (List ℕ)) → IsWritten text settings condition → ⊥

-- it is refused for its syntax, at some offset, exactly if it cannot be written
abbrev pub SyntaxIsUnwritten : Type 0
SyntaxIsUnwritten = (definition : Definition) → (text : List ℕ) → IsHistText text
    → ((at : ℕ) × (cause : HistCause) × (spec_of definition text ≡ Err (HistSyntax at cause))) ↔ IsUnwritten text

-- and it is refused for a fault, of whatever kind, exactly if the fault is this one: of the syntax, for what is wrong at the leftmost offset; or else,
-- of a string that is written so, the first that there is cause for
abbrev pub RefusalIsAsWritten : Type 0
RefusalIsAsWritten = (definition : Definition) → (text : List ℕ) → (fault : TriggerFault) → IsHistText text → (spec_of definition text ≡ Err fault) ↔ IsRefusedAs definition text fault

-- it is never refused as a string that is no trigger's at all
abbrev pub RefusalIsNoBadText : Type 0
RefusalIsNoBadText = (definition : Definition) → (text : List ℕ) → (cause : TextCause) → IsHistText text → spec_of definition text ≢ Err (BadText cause)
