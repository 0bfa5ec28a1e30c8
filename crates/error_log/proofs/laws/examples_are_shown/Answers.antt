use Rattle.std.proofs.Common.{refl}
use Rattle.std.specs.Fmt.{digits}
use Rattle.trace_command.specs.Paths.{address_of, below_mount_point, cpu_file, event_file, events_file, mount_point, option_file, system_file, top_file}
use Rattle.error_log.proofs.laws.examples_are_shown.Goals as goal

pub returns-clause-lines : goal.returns-clause-lines
returns-clause-lines c = record {
  first = λ e sentence. (refl, refl);
  second = λ e sentence. (refl, refl);
  newline = λ e sentence. (refl, refl);
  tab = λ e sentence. (refl, refl);
  nothing = λ e sentence. (refl, refl);
  long = λ e sentence. (refl, refl);
}

pub returns-clause-logs : goal.returns-clause-logs
unfolding address_of below_mount_point cpu_file digits event_file events_file mount_point option_file system_file top_file
returns-clause-logs c = record {
  trigger = refl;
  switch = refl;
  own = refl;
  eight = refl;
  other = refl;
  none = refl;
  still = refl;
}
