use Rattle.trace_filter.proofs.ClassGrammarLaws.{class_is_written, one_list_of_members, class_holds_as_written}
use Rattle.trace_filter.proofs.laws.classes_are_as_written.Goals as goal

pub returns-clause-written : goal.returns-clause-written
returns-clause-written c = class_is_written

pub returns-clause-unique : goal.returns-clause-unique
returns-clause-unique c = one_list_of_members

pub returns-clause-holds : goal.returns-clause-holds
returns-clause-holds c = class_holds_as_written
