use Rattle.std.proofs.Common.{ap, ◌∙◌, length}
use Rattle.trace_hist.specs.Groups.{grouped}
use Rattle.trace_hist.specs.Hists.{StandsFor}
use Rattle.trace_hist.specs.Stored.{Kept}
use Rattle.trace_hist.proofs.Counting.{table-empty}
use Rattle.trace_hist.proofs.hist.Hist.new.Goals as goal

pub returns-clause-stands : goal.returns-clause-stands
unfolding StandsFor grouped
returns-clause-stands c = ap (λ (k : Kept). k.table) c.new-counts.ensures ∙ table-empty c.args.spec.size (length c.args.spec.value_sources)
