use Rattle.tracer_specification.proofs.Exchanges.{snapshots_swap_the_sides, triggers_swap_the_sides, snapshots_stay}
use Rattle.tracer_specification.proofs.laws.exchanges_swap_the_sides.Goals as goal

pub returns-clause-written : goal.returns-clause-written
returns-clause-written c = snapshots_swap_the_sides

pub returns-clause-triggered : goal.returns-clause-triggered
returns-clause-triggered c = triggers_swap_the_sides

pub returns-clause-stay : goal.returns-clause-stay
returns-clause-stay c = snapshots_stay
