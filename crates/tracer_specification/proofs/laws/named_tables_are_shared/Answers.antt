use Rattle.tracer_specification.proofs.AskedTables.{tables_begin_empty}
use Rattle.tracer_specification.proofs.NamedTables.{named_tables_are_shared, shared_tables_fit, tables_go_with_their_last}
use Rattle.tracer_specification.proofs.SharedTables.{shared_tables_are_shown_alike}
use Rattle.tracer_specification.proofs.laws.named_tables_are_shared.Goals as goal

pub returns-clause-shared : goal.returns-clause-shared
returns-clause-shared c = named_tables_are_shared

pub returns-clause-fit : goal.returns-clause-fit
returns-clause-fit c = shared_tables_fit

pub returns-clause-alike : goal.returns-clause-alike
returns-clause-alike c = shared_tables_are_shown_alike

pub returns-clause-empty : goal.returns-clause-empty
returns-clause-empty c = tables_begin_empty

pub returns-clause-gone : goal.returns-clause-gone
returns-clause-gone c = tables_go_with_their_last
