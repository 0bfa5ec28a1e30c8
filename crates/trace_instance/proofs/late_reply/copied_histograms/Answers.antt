use Rattle.std.proofs.Common.{rules}
use Rattle.trace_text.proofs.CopyLemmas.{copied_hist_text-is}
use Rattle.trace_instance.proofs.late_reply.copied_histograms.Goals as goal

pub returns : goal.returns
returns c = search (rules, copied_hist_text-is)
