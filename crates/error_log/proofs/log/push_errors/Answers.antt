use Rattle.std.specs.Prelude.{◌++◌}
use Rattle.error_log.specs.Errors.{ErrorSeen}
use Rattle.error_log.specs.Logs as logs
use Rattle.error_log.proofs.Lines.{one_written}
use Rattle.error_log.proofs.log.push_errors.Goals as goal

pub loop-error-preserved : goal.loop-error-preserved
loop-error-preserved c =
    one_written ErrorSeen (logs.own_text c.args.owner) c.args.list.now c.loop-error.error-index c.error-item.result
    (c.args.out.now.items ++ logs.log_text c.args.owner c.args.list.now) c.loop-error.out.items c.push_own.new.out.items c.loop-error-test.true
    c.error-item.is c.loop-error.invariant c.in_ok-push_own.ensures
