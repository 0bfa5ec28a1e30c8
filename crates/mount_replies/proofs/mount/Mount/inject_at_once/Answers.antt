use Rattle.std.proofs.Common.{length, refl}
use Rattle.mount_replies.proofs.StreamSteps.{once-refused, once-written}
use Rattle.mount_replies.proofs.mount.Mount.inject_at_once.Goals as goal

pub returns-in-Ok-clause-step : goal.returns-in-Ok-clause-step
returns-in-Ok-clause-step c = λ past own is mounted target there.
    once-written past c.args.self.now c.do_injection.new.self own is c.args.pid (length c.args.bytes.now) c.args.bytes.now
    (c.in-Ok.ensures past is mounted there) refl

pub returns-in-Err-clause-step : goal.returns-in-Err-clause-step
returns-in-Err-clause-step c = λ past own is mounted target there.
    once-refused past c.args.self.now c.do_injection.new.self c.note_injection-told.new.self own is c.args.target.owner c.args.target.file c.args.event c.args.pid c.args.bytes
    c.in-Err.fault c.note_injection-told.result c.errno.result target.owner target.file_is (c.in-Err.ensures past is mounted there) there c.note_injection-told.ensures c.errno.ensures
