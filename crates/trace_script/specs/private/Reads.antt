-- Words for the private contracts that cut the words of a read out of its line.
use Rattle.std.specs.Prelude.{ℕ, List, Result}
use Rattle.trace_command.specs.Commands.{Command}
use Rattle.trace_script.specs.Lines.{read_of, take_of}
use Rattle.trace_script.specs.Outcomes.{or_fault, ◌>>=◌}
use Rattle.trace_script.specs.Tokens.{tokens_of}
use Rattle.trace_script.specs.declared.fault.ScriptFault.{ScriptFault}
use Rattle.trace_script.specs.declared.fault.ScriptFault.TheVariants.{UnclosedQuote}

-- the read whose words follow `cat` in a line
abbrev pub cat_in : List ℕ → Result Command ScriptFault
cat_in text = or_fault UnclosedQuote (tokens_of text) >>= λ tokens. read_of tokens

-- the read whose words follow `take`
abbrev pub take_in : List ℕ → Result Command ScriptFault
take_in text = or_fault UnclosedQuote (tokens_of text) >>= λ tokens. take_of tokens
