use Rattle.std.proofs.Common.{ℕ, List, true, ap, ◌∙◌}
use Rattle.mount_replies.specs.declared.stream.Stream.{Stream}
use Rattle.mount_replies.proofs.StreamSteps.{stream-unread, stream-written}
use Rattle.mount_replies.proofs.mount.Mount.inject_stream.Goals as goal

pub returns-in_default-clause-step : goal.returns-in_default-clause-step
returns-in_default-clause-step c = λ past own is written mounted found target there bytes_are kept_is size_is.
    stream-unread past c.args.self.now own is c.args.target.handle c.args.lock_owner c.args.pid written mounted

pub returns-clause-step : goal.returns-clause-step
returns-clause-step c = λ past own is written mounted found target there bytes_are kept_is size_is.
    let after : Stream = record { is_stream = true; rest = c.in-Ok.rest; lock_owner = c.args.lock_owner; pid = c.args.pid } in
    stream-written past c.args.self.now c.do_stream-progress.new.self c.end_stream.new.self own is c.args.target c.args.event c.args.lock_owner
    c.args.pid c.args.kept c.args.size c.args.bytes.now written after c.do_stream-progress.result c.end_stream.result target.owner target.file_is bytes_are kept_is size_is
    (ap (λ (r : List ℕ). record { is_stream = true; rest = r; lock_owner = c.args.lock_owner; pid = c.args.pid }) (c.in-Ok.ensures ∙ c.last_piece.ensures))
    (c.do_stream-progress.ensures.runs past is mounted there) there c.end_stream.ensures.ends
