use Rattle.mount_replies.proofs.FileLemmas.{changed}
use Rattle.mount_replies.proofs.files.OpenFiles.keep_stream.Goals as goal

pub returns : goal.returns
returns c = changed _ _ _ _ _ _ _ c.in-Some.ensures.value c.take.ensures.after c.with_stream.ensures c.put.ensures
