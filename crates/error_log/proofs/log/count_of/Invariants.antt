use Rattle.std.proofs.Common.{◌≡◌, ◌+◌, ◌≤◌, count_by, drop}
use Rattle.error_log.specs.Logs as logs
use Rattle.error_log.proofs.log.count_of.Given as goal

abbrev pub invariant-loop-error : goal.invariant-loop-error
invariant-loop-error l = record {
  value : count_by (logs.is_of l.owner) (drop l.error-index l.list) + l.count ≡ count_by (logs.is_of l.owner) l.list;
  bound : l.count ≤ l.error-index;
}
