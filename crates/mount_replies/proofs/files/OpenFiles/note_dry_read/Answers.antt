use Rattle.mount_replies.proofs.FileLemmas.{changed}
use Rattle.mount_replies.proofs.files.OpenFiles.note_dry_read.Goals as goal

pub returns : goal.returns
returns c = changed _ _ _ _ _ _ _ c.in-Some.ensures.value c.take.ensures.after c.after_dry_read.ensures c.put.ensures
