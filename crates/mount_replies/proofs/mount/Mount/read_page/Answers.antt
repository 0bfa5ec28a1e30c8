use Rattle.std.proofs.Common.{Ok, Some}
use Rattle.trace_command.specs.declared.command.Reply.{Reply as Answer}
use Rattle.trace_command.specs.declared.file_name.CpuFile.TheVariants as per_cpu
use Rattle.file_list.specs.declared.file.File.TheVariants as files
use Rattle.mount_tree.specs.declared.node.Node.TheVariants as nodes
use Rattle.mount_replies.specs.Mounted.{IsAsked}
use Rattle.mount_replies.specs.Steps.{read_of}
use Rattle.mount_replies.specs.contracts.mount.Mount.{the_view}
use Rattle.mount_replies.proofs.PageReads.{page-refused, page-told, page-unmade}
use Rattle.mount_replies.proofs.mount.Mount.read_page.Goals as goal

pub returns-in_default-clause-told : goal.returns-in_default-clause-told
returns-in_default-clause-told c = λ past own mounted found owner file.
    page-unmade past c.args.self.now c.args.read own c.args.owner c.args.cpu c.tell_error.new.out.items mounted owner file c.tell_error.ensures.bytes

pub returns-in-Ok-ask_take-clause-told : goal.returns-in-Ok-ask_take-clause-told
returns-in-Ok-ask_take-clause-told c = λ past own mounted found owner file.
    let old = c.args.self.now in
    let made = c.in-Ok.ensures past mounted in
    let asked : (answer : Answer) × IsAsked past old (the_view c.self.inside)
    (read_of old.scene (nodes.File c.args.owner (files.OfCpu c.args.cpu per_cpu.TracePipe)) (Some c.in-Ok.page.taken)) (Ok answer) =
    rw c.self.view_is (c.in-Ok-ask_take.ensures past mounted) in
    page-told past old (the_view c.self.inside) c.args.read own c.args.owner c.args.cpu c.in-Ok.page.taken c.min-size.result asked.0
    c.in-Ok.page.bytes c.keep_records.new.self c.tell_part.new.out.items mounted owner file asked.1 made.0 made.1 c.min-size.ensures c.keep_records.ensures
    (rw c.as_bytes.ensures at c.tell_part.ensures.bytes)

pub returns-in-Err-clause-told : goal.returns-in-Err-clause-told
returns-in-Err-clause-told c = λ past own mounted found owner file.
    page-refused past c.args.self.now c.ask_take.new.self c.args.read own c.args.owner c.args.cpu c.in-Ok.page.taken c.in-Err.refusal
    c.errno_of_refused.result c.tell_error-in-Err.new.out.items mounted owner file (c.in-Err.ensures past mounted) (c.in-Ok.ensures past mounted).1
    c.errno_of_refused.ensures c.tell_error-in-Err.ensures.bytes
