use Rattle.mount_replies.proofs.PartLaws.{steps_do_commands}
use Rattle.mount_replies.proofs.laws.requests_do_commands.Goals as goal

pub returns : goal.returns
returns c = steps_do_commands
