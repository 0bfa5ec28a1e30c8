use Rattle.library_tracer.proofs.passes.+split_evenly.Given as goal

abbrev pub decreases-split_evenly : goal.decreases-split_evenly
decreases-split_evenly l = l.times
