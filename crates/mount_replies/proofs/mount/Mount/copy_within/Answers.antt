use Rattle.trace_command.specs.Requests.{request_of}
use Rattle.trace_command.specs.declared.command.CommandOf.TheVariants as commands
use Rattle.tracer.specs.LateReads.{replied}
use Rattle.mount_replies.proofs.CallLemmas.{looked-after}
use Rattle.mount_replies.proofs.ServeLemmas.{has-led}
use Rattle.mount_replies.proofs.mount.Mount.copy_within.Goals as goal

pub returns : goal.returns
returns c = λ past mounted.
    looked-after c.args.limit past c.args.self.now c.take_copy-answer.new.self c.look_for_owed.new.self (request_of (commands.Read c.args.path.now c.args.most))
    (replied c.take_copy-answer.result) (c.take_copy-answer.ensures past (has-led past c.args.self.now mounted)) c.look_for_owed.ensures.rest
    c.look_for_owed.ensures.owes
