use Rattle.std.proofs.Common.{◌≡◌, true, false, Err, is_some, rules}
use Rattle.trace_command.specs.declared.refusal.Limit.TheVariants.{Triggers}
use Rattle.trace_command.specs.declared.refusal.Refusal.TheVariants.{TooMany}
use Rattle.trace_instance.proofs.Answering.{attach-done, attach-exists, attach-full}
use Rattle.trace_instance.proofs.attach.EventTriggers.attached.Goals as goal

pub returns-then-is_some-clause-change : goal.returns-then-is_some-clause-change
returns-then-is_some-clause-change c =
    let some : is_some c.args.self.own.now.triggers.snapshot ≡ true = search rules in
    attach-exists c.args.trigger c.args.self c.args.written some

pub returns-in_err-check_room-clause-change : goal.returns-in_err-check_room-clause-change
returns-in_err-check_room-clause-change c =
    let none : is_some c.args.self.own.now.triggers.snapshot ≡ false = search rules in
    let out : c.from_residual.result ≡ Err (TooMany Triggers) = search rules in
    rw out (attach-full c.args.trigger c.args.self c.args.written none c.in_err-check_room.ensures.full.1)

pub returns-clause-change : goal.returns-clause-change
returns-clause-change c =
    let none : is_some c.args.self.own.now.triggers.snapshot ≡ false = search rules in
    rw c.new.ensures (attach-done c.args.trigger c.args.self c.args.written none c.in_ok-check_room.ensures.room)
