use Rattle.mount_tree.proofs.TreeExamples.{lists, lists_with_dots, look_ups, numbers, second-of_its_name}
use Rattle.mount_tree.proofs.laws.examples_are_computed.Goals as goal

pub returns-clause-requests : goal.returns-clause-requests
returns-clause-requests c = second-of_its_name

pub returns-clause-lists : goal.returns-clause-lists
returns-clause-lists c = lists

pub returns-clause-dots : goal.returns-clause-dots
returns-clause-dots c = lists_with_dots

pub returns-clause-found : goal.returns-clause-found
returns-clause-found c = look_ups

pub returns-clause-numbers : goal.returns-clause-numbers
returns-clause-numbers c = numbers
