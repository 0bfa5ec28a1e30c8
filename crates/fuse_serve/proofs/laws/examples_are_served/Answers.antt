use Rattle.fuse_serve.proofs.CallExamples.{answered, not_ahead, not_in_two, not_late}
use Rattle.fuse_serve.proofs.laws.examples_are_served.Goals as goal

pub returns : goal.returns
returns c = record { answered = answered; not_ahead = not_ahead; not_in_two = not_in_two; not_late = not_late }
