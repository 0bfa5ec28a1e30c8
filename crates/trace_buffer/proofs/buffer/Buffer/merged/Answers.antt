use Rattle.std.proofs.Common.{ap, ◌∙◌}
use Rattle.trace_buffer.specs.Orders.{merged, by_timestamp}
use Rattle.trace_buffer.proofs.buffer.Buffer.merged.Goals as goal

pub returns : goal.returns
unfolding merged
returns c = λ family h. c.in_ok-sort_by_time.ensures ∙ ap by_timestamp (c.in_ok-records.ensures family h)
