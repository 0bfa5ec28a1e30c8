use Rattle.mount_tree.proofs.SoundLemmas.{scene-sound}
use Rattle.mount_tree.proofs.laws.scenes_are_sound.Goals as goal

pub returns : goal.returns
returns c = scene-sound
