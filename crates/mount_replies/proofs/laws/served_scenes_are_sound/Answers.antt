use Rattle.mount_replies.proofs.ToolReads.{served_scenes_are_sound}
use Rattle.mount_replies.proofs.laws.served_scenes_are_sound.Goals as goal

pub returns : goal.returns
returns c = served_scenes_are_sound
