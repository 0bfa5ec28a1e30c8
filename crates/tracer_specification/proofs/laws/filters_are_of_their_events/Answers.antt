use Rattle.tracer_specification.proofs.StandingFilters.{standing_filters_are_filters, filters_hold_as_their_trees}
use Rattle.tracer_specification.proofs.laws.filters_are_of_their_events.Goals as goal

pub returns-clause-standing : goal.returns-clause-standing
returns-clause-standing c = standing_filters_are_filters

pub returns-clause-holding : goal.returns-clause-holding
returns-clause-holding c = filters_hold_as_their_trees
