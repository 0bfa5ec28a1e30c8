-- Emissions whose words are read where they lie in their line.
use Rattle.std.specs.Prelude.{◌≡◌, ℕ, Bool, true, false, not, ◌&&◌, ◌||◌, ◌==◌, List, [], ◌∷◌, ◌++◌, take, Result, Ok, codes}
use Rattle.std.specs.List.{list_any, prefix_len}
use Rattle.trace_lex.specs.Blanks.{is_blank}
use Rattle.trace_format.specs.declared.pair.Pair.{Pair}
use Rattle.trace_command.specs.Commands.{Command}
use Rattle.trace_command.specs.declared.command.CommandOf.TheVariants.{Emit}
use Rattle.trace_script.specs.Lines.{line_of}
use Rattle.trace_script.specs.Tokens.{is_quote}
use Rattle.trace_script.specs.declared.emission.EmissionHead.{EmissionHead}
use Rattle.trace_script.specs.declared.fault.ScriptFault.{ScriptFault}
use Rattle.trace_script.specs.declared.line.Line.{Line}
use Rattle.trace_script.specs.declared.line.Line.TheVariants.{Ask}

-- what a line asks for that has these words and pairs
abbrev pub emission_said : EmissionHead → List Pair → Result Line ScriptFault
emission_said head pairs = Ok (Ask (Emit head.event.now head.cpu head.pid pairs))

-- the rest of a line after a blank, or after a byte of a word: no blank follows a blank, and the last byte is of a word
abbrev pub is_spaced : Bool → List ℕ → Bool
is_spaced after_blank [] = not after_blank
is_spaced after_blank (b ∷ bs) = not (after_blank && is_blank b) && is_spaced (is_blank b) bs

-- how many bytes of a text stand before its first newline; all, where it has none
abbrev pub line_len : List ℕ → ℕ
line_len text = prefix_len (λ b. not (b == 10)) text

-- the line that a text begins with
abbrev pub line_in : List ℕ → List ℕ
line_in text = take (line_len text) text

-- an emission without quotes and `>`, with one blank between each two words and none at its ends
pub record IsPlainEmission (line : List ℕ) : Type 0 where
  pub rest : List ℕ
  pub begins : line ≡ codes "emit " ++ rest
  pub plain : list_any (λ b. is_quote b || b == 62) line ≡ false
  pub spaced : is_spaced true line ≡ true
  pub command : Command
  pub asks : line_of line ≡ Ok (Ask command)
