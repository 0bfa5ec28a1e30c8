use Rattle.std.proofs.Common.{rules}
use Rattle.trace_text.proofs.CopyLemmas.{copied_hist_text-is}
use Rattle.trace_text.proofs.hist.hist_text.Goals as goal

pub returns : goal.returns
returns c = search (rules, copied_hist_text-is)
