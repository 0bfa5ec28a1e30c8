use Rattle.trace_buffer.proofs.PipeLaws as lemmas
use Rattle.trace_buffer.proofs.laws.each_read_takes_the_earliest.Goals as goal

pub returns : goal.returns
returns c = lemmas.each_read_takes_the_earliest
