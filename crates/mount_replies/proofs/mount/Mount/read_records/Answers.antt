use Rattle.std.proofs.Common.{Ok, Some, refl}
use Rattle.mount_tree.specs.declared.node.Node.TheVariants as nodes
use Rattle.mount_replies.specs.Mounted.{IsAsked}
use Rattle.mount_replies.specs.Served.{records_for, taken_records}
use Rattle.mount_replies.specs.Steps.{read_of}
use Rattle.mount_replies.specs.contracts.mount.Mount.{the_view}
use Rattle.mount_replies.proofs.ReadLemmas.{refused-told, taken-told}
use Rattle.mount_replies.proofs.mount.Mount.read_records.Goals as goal

pub returns-in-Ok-clause-told : goal.returns-in-Ok-clause-told
returns-in-Ok-clause-told c = λ past mounted.
    let old = c.args.self.now in
    let asked : IsAsked past old (the_view c.self.inside) (read_of old.scene (nodes.File c.args.owner c.args.file) (Some (records_for c.args.read.size)))
    (Ok c.in-Ok.answer) =
    rw (c.self.view_is, ← c.records_for.ensures) (c.in-Ok.ensures past mounted) in
    taken-told past old (the_view c.self.inside) old.scene c.args.read.handle c.args.read.size (nodes.File c.args.owner c.args.file) c.in-Ok.answer
    c.text_in-text.result c.min.result c.keep_records.new.self c.args.read.unique c.tell_part.new.out.items asked c.text_in-text.ensures c.min.ensures
    c.keep_records.ensures (rw c.as_bytes.ensures at c.tell_part.ensures.bytes)

pub returns-in-Err-clause-told : goal.returns-in-Err-clause-told
returns-in-Err-clause-told c = λ past mounted.
    let old = c.args.self.now in
    rw (← c.records_for.ensures) (
    refused-told past old c.ask_read.new.self (read_of old.scene (nodes.File c.args.owner c.args.file) (Some c.records_for.result))
    (taken_records c.args.read.handle c.args.read.size old.files) c.in-Err.refusal c.errno_of_refused.result c.args.read.unique c.tell_error.new.out.items
    (c.in-Err.ensures past mounted) refl c.errno_of_refused.ensures c.tell_error.ensures.bytes)
