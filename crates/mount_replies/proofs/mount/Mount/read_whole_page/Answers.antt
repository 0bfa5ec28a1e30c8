use Rattle.std.proofs.Common.{◌≡◌, true, nat_lt, arith}
use Rattle.std.proofs.lemmas.Bool.Decides.{nat_tests}
use Rattle.fuse_wire.specs.declared.errno.Errno.TheVariants.{EINVAL}
use Rattle.fuse_wire.specs.declared.reply.Reply.TheVariants as replies
use Rattle.mount_replies.proofs.ReadLemmas.{plain-told}
use Rattle.mount_replies.proofs.mount.Mount.read_whole_page.Goals as goal

pub returns-then-read-lt-PAGE_SIZE-clause-told : goal.returns-then-read-lt-PAGE_SIZE-clause-told
returns-then-read-lt-PAGE_SIZE-clause-told c = λ past own mounted found owner file.
    let few : nat_lt c.args.read.size 4096 ≡ true = grind (arith, nat_tests, c.if-read-lt-PAGE_SIZE.true) in
    rw few (plain-told past c.args.self.now (replies.Error EINVAL) c.args.read.unique c.tell_error.new.out.items mounted c.tell_error.ensures.bytes)
