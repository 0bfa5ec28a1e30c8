use Rattle.std.proofs.Common.{[], refl}
use Rattle.mount_replies.specs.private.LineRuns.{target_command}
use Rattle.mount_replies.proofs.CommandLemmas.{last-done, one-stopped}
use Rattle.mount_replies.proofs.mount.Mount.do_one_command.Goals as goal

pub returns-in-Ok-clause-runs : goal.returns-in-Ok-clause-runs
returns-in-Ok-clause-runs c = λ past mounted.
    last-done past 0 c.args.self.now c.do_command.new.self
    (record { text = c.args.line.now; asking = target_command c.args.self.now.scene c.args.target c.args.target.append c.args.line.now; end = c.args.size })
    (c.in-Ok.ensures.did past mounted)

pub returns-in-Err-clause-runs : goal.returns-in-Err-clause-runs
returns-in-Err-clause-runs c = λ past mounted.
    one-stopped past 0 c.args.self.now c.do_command.new.self
    (record { text = c.args.line.now; asking = target_command c.args.self.now.scene c.args.target c.args.target.append c.args.line.now; end = c.args.size }) []
    (record { line = c.args.line; fault = c.in-Err.fault }) (c.in-Err.ensures.did past mounted) refl
