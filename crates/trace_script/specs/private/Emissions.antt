-- Words for the private contracts that cut the words of an emission out of its line.
use Rattle.std.specs.Prelude.{ℕ, List, ◌∷◌, Option, Result, Ok}
use Rattle.std.specs.Option.{option_and_then}
use Rattle.trace_command.specs.Commands.{Command}
use Rattle.trace_format.specs.declared.pair.Pair.{Pair}
use Rattle.trace_script.specs.Lines.{pairs_of, emission_of}
use Rattle.trace_script.specs.Outcomes.{or_fault, ◌>>=◌}
use Rattle.trace_script.specs.Tokens.{tokens_of}
use Rattle.trace_script.specs.declared.emission.EmissionWords.{EmissionWords}
use Rattle.trace_script.specs.declared.fault.ScriptFault.{ScriptFault}
use Rattle.trace_script.specs.declared.fault.ScriptFault.TheVariants.{UnclosedQuote}
use Rattle.trace_script.specs.declared.line.Line.{Line}
use Rattle.trace_script.specs.declared.line.Line.TheVariants.{Ask}
use Rattle.trace_script.specs.declared.token.Token.{Token}
use Rattle.trace_script.specs.declared.token.Token.TheVariants.{Word}

-- the tokens that follow `emit`, of which these are those of the pairs
abbrev pub tokens_in : EmissionWords → List Token → List Token
tokens_in words pairs = Word words.cpu.now ∷ Word words.pid.now ∷ Word words.event.now ∷ pairs

-- the pairs that a string writes, if each of its words is one
abbrev pub pairs_in : List ℕ → Option (List Pair)
pairs_in text = option_and_then pairs_of (tokens_of text)

-- the emission whose words follow `emit` in a line
abbrev pub emission_in : List ℕ → Result Command ScriptFault
emission_in text = or_fault UnclosedQuote (tokens_of text) >>= λ tokens. emission_of tokens

-- what a line asks for in which this text follows `emit`
abbrev pub asked_after_emit : List ℕ → Result Line ScriptFault
asked_after_emit text = emission_in text >>= λ command. Ok (Ask command)
