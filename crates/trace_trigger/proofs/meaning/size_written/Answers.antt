use Rattle.std.proofs.Common.{sym, ◌∙◌}
use Rattle.trace_trigger.proofs.SizeLemmas.{size_read}
use Rattle.trace_trigger.proofs.meaning.size_written.Goals as goal

pub returns : goal.returns
returns c = c.rounded_size.ensures ∙ sym (size_read c.args.digits.now _ (sym c.in_ok-decimal_number.ensures))
