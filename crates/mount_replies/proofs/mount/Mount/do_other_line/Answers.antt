use Rattle.std.proofs.Common.{refl}
use Rattle.mount_replies.specs.Injections.{pairs_of_line}
use Rattle.mount_replies.specs.Lines.{asked_by_pairs}
use Rattle.mount_replies.proofs.StreamLemmas.{memory-line}
use Rattle.mount_replies.proofs.mount.Mount.do_other_line.Goals as goal

pub returns-in_default : goal.returns-in_default
returns-in_default c = λ past own mounted is.
    memory-line past c.args.self.now c.args.self.now.live.config.cpus c.args.pid own (pairs_of_line c.args.line.now)
    (asked_by_pairs c.args.self.now.live.config.cpus c.args.pid own (pairs_of_line c.args.line.now)) mounted refl

pub returns : goal.returns
returns c = λ past own mounted is.
    memory-line past c.args.self.now c.args.self.now.live.config.cpus c.args.pid own (pairs_of_line c.args.line.now)
    (asked_by_pairs c.args.self.now.live.config.cpus c.args.pid own (pairs_of_line c.args.line.now)) mounted refl
