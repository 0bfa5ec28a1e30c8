use Rattle.mount_replies.proofs.FileLemmas.{changed}
use Rattle.mount_replies.proofs.files.OpenFiles.note_poll.Goals as goal

pub returns : goal.returns
returns c =
    let polls = rw c.polls.ensures at c.told-polls.ensures in
    changed _ _ _ _ _ _ _ c.in-Some.ensures.value c.take.ensures.after (rw polls at c.with_polls.ensures) c.put.ensures
