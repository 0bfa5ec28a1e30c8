use Rattle.std.proofs.Common.{refl}
use Rattle.trace_format.specs.Operands.{operand_named}
use Rattle.trace_filter.specs.Filters.{answer_of}
use Rattle.trace_filter.specs.Syntax.{step}
use Rattle.trace_filter.specs.Tokens.{piece_of}
use Rattle.trace_filter.proofs.laws.examples_are_told.Goals as goal

pub returns : goal.returns
unfolding answer_of operand_named step piece_of
returns c = refl
