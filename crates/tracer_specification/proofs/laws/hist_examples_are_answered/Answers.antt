use Rattle.tracer_specification.proofs.HistTriggerExamples.{examples-are_answered}
use Rattle.tracer_specification.proofs.laws.hist_examples_are_answered.Goals as goal

pub returns-clause-shown : goal.returns-clause-shown
returns-clause-shown c = examples-are_answered.shown

pub returns-clause-refused : goal.returns-clause-refused
returns-clause-refused c = examples-are_answered.refused

pub returns-clause-paused : goal.returns-clause-paused
returns-clause-paused c = examples-are_answered.paused

pub returns-clause-unrecorded : goal.returns-clause-unrecorded
returns-clause-unrecorded c = examples-are_answered.unrecorded

pub returns-clause-instance : goal.returns-clause-instance
returns-clause-instance c = examples-are_answered.instance

pub returns-clause-removed : goal.returns-clause-removed
returns-clause-removed c = examples-are_answered.removed

pub returns-clause-anew : goal.returns-clause-anew
returns-clause-anew c = examples-are_answered.anew

pub returns-clause-four : goal.returns-clause-four
returns-clause-four c = examples-are_answered.four

pub returns-clause-events : goal.returns-clause-events
returns-clause-events c = examples-are_answered.events

pub returns-clause-table : goal.returns-clause-table
returns-clause-table c = examples-are_answered.table

pub returns-clause-twice : goal.returns-clause-twice
returns-clause-twice c = examples-are_answered.twice

pub returns-clause-order : goal.returns-clause-order
returns-clause-order c = examples-are_answered.order
