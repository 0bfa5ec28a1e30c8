-- Commands, whoever owns their strings and pairs.
use Rattle.std.specs.Prelude.{ℕ, List, []}
use Rattle.trace_format.specs.declared.pair.Pair.{Pair}
use Rattle.trace_command.specs.declared.command.CommandOf.{CommandOf}
use Rattle.trace_command.specs.declared.command.CommandOf.TheVariants.{Emit}

abbrev pub Command : Type 0
Command = CommandOf (List ℕ) (List Pair)

-- the pairs of an emission
abbrev pub pairs_of : Command → List Pair
pairs_of (Emit event cpu pid pairs) = pairs
pairs_of command = []
