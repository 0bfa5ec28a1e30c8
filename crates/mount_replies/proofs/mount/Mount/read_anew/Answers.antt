use Rattle.std.proofs.Common.{None, refl}
use Rattle.mount_tree.specs.declared.node.Node.TheVariants as nodes
use Rattle.mount_replies.specs.Served.{given_text}
use Rattle.mount_replies.specs.Services.{with_reading}
use Rattle.mount_replies.specs.Steps.{read_of}
use Rattle.mount_replies.proofs.ReadLemmas.{made-told, refused-told}
use Rattle.mount_replies.proofs.mount.Mount.read_anew.Goals as goal

pub returns-in-Ok-clause-told : goal.returns-in-Ok-clause-told
returns-in-Ok-clause-told c =
    let mid = c.ask_read.new.self in
    let old = c.args.self.now in
    rw c.give_text-in-Ok.ensures.kept (λ past mounted.
    made-told past old mid old.scene c.args.read.handle c.args.offset c.args.read.size (nodes.File c.args.owner c.args.file) c.in-Ok.answer
    c.text_in.result (with_reading c.args.offset c.args.read.size c.text_in.result c.args.read.handle mid.files) c.args.read.unique c.give_text-in-Ok.new.out.items
    (c.in-Ok.ensures past mounted) c.text_in.ensures refl c.give_text-in-Ok.ensures.bytes)

pub returns-in-Err-clause-told : goal.returns-in-Err-clause-told
returns-in-Err-clause-told c = λ past mounted.
    let old = c.args.self.now in
    refused-told past old c.ask_read.new.self (read_of old.scene (nodes.File c.args.owner c.args.file) None)
    (given_text c.args.read.handle c.args.offset c.args.read.size old.files) c.in-Err.refusal c.errno_of_refused.result c.args.read.unique
    c.tell_error.new.out.items (c.in-Err.ensures past mounted) refl c.errno_of_refused.ensures c.tell_error.ensures.bytes
