use Rattle.std.proofs.Common.{ap, sym, ◌∙◌}
use Rattle.trace_record.specs.Record.{record_size}
use Rattle.trace_record.proofs.HeadBytes.{two_at}
use Rattle.trace_record.proofs.record.told_length.Goals as goal

pub returns : goal.returns
returns c = c.record_size.ensures.size ∙ ap record_size (c.from.ensures ∙ c.from_le_bytes.ensures ∙ sym (two_at 14 c.args.bytes.now))
