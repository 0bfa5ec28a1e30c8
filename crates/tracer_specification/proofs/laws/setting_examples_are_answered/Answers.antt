use Rattle.tracer_specification.proofs.SettingExamples.{examples-are_answered}
use Rattle.tracer_specification.proofs.laws.setting_examples_are_answered.Goals as goal

pub returns-clause-switches : goal.returns-clause-switches
returns-clause-switches c = examples-are_answered.switches

pub returns-clause-filters : goal.returns-clause-filters
returns-clause-filters c = examples-are_answered.filters

pub returns-clause-options : goal.returns-clause-options
returns-clause-options c = examples-are_answered.options

pub returns-clause-recorded : goal.returns-clause-recorded
returns-clause-recorded c = examples-are_answered.recorded

pub returns-clause-emptied : goal.returns-clause-emptied
returns-clause-emptied c = examples-are_answered.emptied

pub returns-clause-refused : goal.returns-clause-refused
returns-clause-refused c = examples-are_answered.refused

pub returns-clause-instances : goal.returns-clause-instances
returns-clause-instances c = examples-are_answered.instances

pub returns-clause-full : goal.returns-clause-full
returns-clause-full c = examples-are_answered.full
