use Rattle.trace_filter.specs.Tokens.{spots_of}
use Rattle.trace_filter.proofs.TreeFits.{fits_as_its_tree, misfit_is_the_first}
use Rattle.trace_filter.proofs.laws.filters_fit_as_their_trees.Goals as goal

pub returns-clause-fits : goal.returns-clause-fits
returns-clause-fits c = λ definition text tree. fits_as_its_tree definition.fields (spots_of text) tree

pub returns-clause-first : goal.returns-clause-first
returns-clause-first c = λ definition text tree fault. misfit_is_the_first definition.fields (spots_of text) tree fault
