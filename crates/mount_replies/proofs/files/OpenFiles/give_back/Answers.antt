use Rattle.mount_replies.proofs.FileLemmas.{given-back}
use Rattle.mount_replies.proofs.files.OpenFiles.give_back.Goals as goal

pub returns : goal.returns
returns c offset size text has out =
    given-back c.args.self.now c.take.new.self c.put.new.self c.args.handle offset size text _ _ c.in-Some.ensures.value c.take.ensures.after
    c.without_text.ensures.some c.put.ensures has out
