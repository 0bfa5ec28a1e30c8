use Rattle.library_tracer.proofs.ClearBits.{clear_bits_keep_numbers, clear_bits_keep_the_mask, clear_bits_only_tick}
use Rattle.library_tracer.proofs.laws.clear_bits_only_tick.Goals as goal

pub returns-clause-ticks : goal.returns-clause-ticks
returns-clause-ticks c = clear_bits_only_tick

pub returns-clause-mask : goal.returns-clause-mask
returns-clause-mask c = clear_bits_keep_the_mask

pub returns-clause-numbers : goal.returns-clause-numbers
returns-clause-numbers c = clear_bits_keep_numbers
