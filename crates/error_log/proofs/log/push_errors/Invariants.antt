use Rattle.std.proofs.Common.{◌≡◌, ◌++◌, drop}
use Rattle.error_log.specs.Logs as logs
use Rattle.error_log.proofs.log.push_errors.Given as goal

-- the texts so far, and those of the errors that are left, are all
abbrev pub invariant-loop-error : goal.invariant-loop-error
invariant-loop-error l = l.out.items ++ logs.log_text l.owner (drop l.error-index l.list) ≡ l.initial.out.items ++ logs.log_text l.owner l.list
