use Rattle.std.proofs.Common.{ap, ◌∙◌, length}
use Rattle.trace_hist.specs.Groups.{grouped}
use Rattle.trace_hist.specs.Hists.{StandsFor}
use Rattle.trace_hist.specs.Stored.{Kept}
use Rattle.trace_hist.proofs.Counting.{table-empty}
use Rattle.trace_hist.proofs.hist.Hist.clear.Goals as goal

pub returns-clause-stands : goal.returns-clause-stands
unfolding StandsFor grouped
returns-clause-stands c =
    ap (λ (k : Kept). k.table) c.clear.ensures ∙ table-empty c.self.inside.spec.size (length c.self.inside.spec.value_sources)
