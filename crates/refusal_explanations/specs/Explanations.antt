-- What is told of a line. The sentence, and what was meant, are any; all else is as here.
use Rattle.std.specs.Prelude.{◌≡◌, ℕ, List, [], Option, Some, None}
use Rattle.trace_command.specs.Refusals.{name_of}
use Rattle.trace_command.specs.declared.refusal.Refusal.{Refusal}
use Rattle.trace_script.specs.Lines.{line_of}
use Rattle.trace_script.specs.Rendering.{fault_name}
use Rattle.trace_script.specs.declared.outcome.Outcome.{Outcome}
use Rattle.trace_script.specs.declared.outcome.Outcome.TheVariants.{Replied, Refused, Fault}
use Rattle.refusal_explanations.specs.Layout.{shown}
use Rattle.refusal_explanations.specs.Places.{asked_command, refusal_place}

-- of a refused line the caret is where its command is to blame, if it is anywhere; of a fault it is under any byte, or there is none
abbrev pub IsUnder : List ℕ → Option Refusal → Option ℕ → Type 0
IsUnder line None caret = Unit {0}
IsUnder line (Some refusal) caret = caret ≡ refusal_place line (asked_command (line_of line)) refusal

-- one explanation of the line of this number in the script of this name, by the name of this refusal, or of a fault
pub record IsExplained (script : List ℕ) (number : ℕ) (line : List ℕ) (refusal : Option Refusal) (name text : List ℕ) : Type 0 where
  pub caret : Option ℕ
  pub under : IsUnder line refusal caret
  pub words : List ℕ
  pub meant : List ℕ
  pub shows : text ≡ shown script number line caret name words meant

-- nothing is told of a line that was done, and of any other there is one explanation
abbrev pub IsExplanation : List ℕ → ℕ → List ℕ → Outcome → List ℕ → Type 0
IsExplanation script number line (Replied reply) text = text ≡ []
IsExplanation script number line (Refused refusal) text = IsExplained script number line (Some refusal) (name_of refusal) text
IsExplanation script number line (Fault fault) text = IsExplained script number line None (fault_name fault) text
