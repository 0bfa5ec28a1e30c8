use Rattle.std.proofs.Common.{Result, subst, sym}
use Rattle.trace_command.specs.Requests.{request_of}
use Rattle.trace_command.specs.declared.command.Reply.{Reply}
use Rattle.trace_command.specs.declared.refusal.Refusal.{Refusal}
use Rattle.mount_replies.specs.Calls.{IsCommanded}
use Rattle.mount_replies.proofs.CallLemmas.{looked-after}
use Rattle.mount_replies.proofs.ServeLemmas.{has-led}
use Rattle.mount_replies.proofs.mount.Mount.call_within.Goals as goal

pub returns : goal.returns
returns c = λ past mounted.
    let request = request_of c.args.command.now in
    subst (λ (a : Result Reply Refusal). IsCommanded c.args.limit past c.args.self.now c.look_after_call.new.self request a) (sym c.put-is_done.ensures)
    (looked-after c.args.limit past c.args.self.now c.run_within-given.new.self c.look_after_call.new.self request c.run_within-given.result
    (c.run_within-given.ensures past (has-led past c.args.self.now mounted)) c.look_after_call.ensures.rest c.look_after_call.ensures.owes)
