use Rattle.tracer_specification.proofs.TrailExamples.{first_makes, second_makes, exactly_one_makes}
use Rattle.tracer_specification.proofs.laws.exactly_one_makes_an_instance.Goals as goal

pub returns-clause-first : goal.returns-clause-first
returns-clause-first c = first_makes

pub returns-clause-second : goal.returns-clause-second
returns-clause-second c = second_makes

pub returns-clause-no_other : goal.returns-clause-no_other
returns-clause-no_other c = exactly_one_makes
