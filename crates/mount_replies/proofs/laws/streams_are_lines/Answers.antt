use Rattle.mount_replies.proofs.StreamLaws.{cuts-dont-matter, lines-end-at-newlines, others-flush-nothing, streams-lose-nothing}
use Rattle.mount_replies.proofs.laws.streams_are_lines.Goals as goal

pub returns-clause-cuts : goal.returns-clause-cuts
returns-clause-cuts c = cuts-dont-matter

pub returns-clause-whole : goal.returns-clause-whole
returns-clause-whole c = streams-lose-nothing

pub returns-clause-ends : goal.returns-clause-ends
returns-clause-ends c = lines-end-at-newlines

pub returns-clause-others : goal.returns-clause-others
returns-clause-others c = others-flush-nothing
