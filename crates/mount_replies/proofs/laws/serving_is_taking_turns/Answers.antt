use Rattle.mount_replies.proofs.TurnLemmas.{serving_is_taking_turns}
use Rattle.mount_replies.proofs.laws.serving_is_taking_turns.Goals as goal

pub returns : goal.returns
returns c = serving_is_taking_turns
