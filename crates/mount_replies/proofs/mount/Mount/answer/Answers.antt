use Rattle.fuse_wire.specs.Requests.{IsFramed}
use Rattle.mount_replies.proofs.ServeLemmas.{few-asked, right-called, wrong-called}
use Rattle.mount_replies.proofs.mount.Mount.answer.Goals as goal

pub serve-requires-clause-few : goal.serve-requires-clause-few
serve-requires-clause-few c = few-asked c.args.asked.now c.in-Ok.request c.in-Ok.ensures.found

pub returns-in-Ok-clause-served : goal.returns-in-Ok-clause-served
returns-in-Ok-clause-served c = λ past mounted.
    right-called past c.args.self.now c.serve.new.self c.args.asked.now c.serve.new.out.items c.in-Ok.request mounted c.requires.nothing_owed
    c.in-Ok.ensures.found (c.serve.ensures.served past mounted)

pub returns-in-Err-WrongBody-clause-served : goal.returns-in-Err-WrongBody-clause-served
returns-in-Err-WrongBody-clause-served c =
    let framed : IsFramed c.args.asked.now c.in-Err-WrongBody.opcode c.in-Err-WrongBody.unique =
    rw c.in-Err-WrongBody.field-0-is at c.in-Err-WrongBody.ensures.wrong in
    λ past mounted.
    wrong-called past c.args.self.now c.args.asked.now c.tell_wrong.new.out.items c.in-Err-WrongBody.field-0 c.in-Err-WrongBody.opcode
    c.in-Err-WrongBody.unique mounted c.requires.nothing_owed framed c.in-Err-WrongBody.ensures.only c.tell_wrong.ensures.bytes
