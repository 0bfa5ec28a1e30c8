use Rattle.std.proofs.Common.{Some, refl}
use Rattle.mount_replies.specs.Lines.{asked_by_pairs}
use Rattle.mount_replies.proofs.StreamLemmas.{memory-line}
use Rattle.mount_replies.proofs.mount.Mount.do_pairs.Goals as goal

pub returns-in_default-from_slice : goal.returns-in_default-from_slice
returns-in_default-from_slice c = λ past own mounted is.
    memory-line past c.args.self.now c.args.self.now.live.config.cpus c.args.pid own (Some c.args.pairs.now)
    (asked_by_pairs c.args.self.now.live.config.cpus c.args.pid own (Some c.args.pairs.now)) mounted refl

pub returns-in_default-left_out : goal.returns-in_default-left_out
returns-in_default-left_out c = λ past own mounted is.
    memory-line past c.args.self.now c.args.self.now.live.config.cpus c.args.pid own (Some c.args.pairs.now)
    (asked_by_pairs c.args.self.now.live.config.cpus c.args.pid own (Some c.args.pairs.now)) mounted refl

pub returns : goal.returns
returns c = λ past own mounted is.
    memory-line past c.args.self.now c.args.self.now.live.config.cpus c.args.pid own (Some c.args.pairs.now)
    (asked_by_pairs c.args.self.now.live.config.cpus c.args.pid own (Some c.args.pairs.now)) mounted refl
