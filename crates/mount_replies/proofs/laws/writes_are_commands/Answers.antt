use Rattle.mount_replies.proofs.ShownLemmas.{writes_are_commands}
use Rattle.mount_replies.proofs.laws.writes_are_commands.Goals as goal

pub returns : goal.returns
returns c = writes_are_commands
