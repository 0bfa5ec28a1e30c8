use Rattle.std.proofs.Common.{◌∙◌}
use Rattle.library_tracer.proofs.status.keep_answer.Goals as goal

pub returns-in-Err-clause-words : goal.returns-in-Err-clause-words
returns-in-Err-clause-words c = rw c.in-Err.is (c.tell-in-Err.ensures.words ∙ c.asked_words-words.ensures)
