use Rattle.file_list.proofs.ListExamples.{inner_folders, names_of_tools, own_folders, whole_list}
use Rattle.file_list.proofs.laws.examples_are_computed.Goals as goal

pub returns-clause-list : goal.returns-clause-list
returns-clause-list c = whole_list

pub returns-clause-own : goal.returns-clause-own
returns-clause-own c = own_folders

pub returns-clause-inner : goal.returns-clause-inner
returns-clause-inner c = inner_folders

pub returns-clause-names : goal.returns-clause-names
returns-clause-names c = names_of_tools
