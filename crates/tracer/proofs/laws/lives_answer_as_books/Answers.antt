use Rattle.tracer.proofs.BookAnswers.{legal_histories_were_done, histories_are_answered_alike, limits_are_alike, refusals_are_alike}
use Rattle.tracer.proofs.laws.lives_answer_as_books.Goals as goal

pub returns : goal.returns
returns c = record {
  done = legal_histories_were_done;
  histories = histories_are_answered_alike;
  refusals = refusals_are_alike;
  limits = limits_are_alike;
}
