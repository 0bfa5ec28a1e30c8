use Rattle.trace_trigger.proofs.Examples.{examples-are_read}
use Rattle.trace_trigger.proofs.hist_laws.examples_are_read.Goals as goal

pub returns-clause-accepted : goal.returns-clause-accepted
returns-clause-accepted c = examples-are_read.accepted

pub returns-clause-accepted_of_move : goal.returns-clause-accepted_of_move
returns-clause-accepted_of_move c = examples-are_read.accepted_of_move

pub returns-clause-attributes : goal.returns-clause-attributes
returns-clause-attributes c = examples-are_read.attributes

pub returns-clause-table_names : goal.returns-clause-table_names
returns-clause-table_names c = examples-are_read.table_names

pub returns-clause-items : goal.returns-clause-items
returns-clause-items c = examples-are_read.items

pub returns-clause-modifiers : goal.returns-clause-modifiers
returns-clause-modifiers c = examples-are_read.modifiers

pub returns-clause-many : goal.returns-clause-many
returns-clause-many c = examples-are_read.many

pub returns-clause-names : goal.returns-clause-names
returns-clause-names c = examples-are_read.names

pub returns-clause-keys : goal.returns-clause-keys
returns-clause-keys c = examples-are_read.keys

pub returns-clause-values : goal.returns-clause-values
returns-clause-values c = examples-are_read.values
