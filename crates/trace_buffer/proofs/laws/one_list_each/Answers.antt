use Rattle.trace_buffer.proofs.Rings.{stands_count}
use Rattle.trace_buffer.proofs.laws.one_list_each.Goals as goal

pub returns : goal.returns
returns c = stands_count
