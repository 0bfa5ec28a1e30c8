use Rattle.std.proofs.Common.{refl}
use Rattle.std.specs.Fmt.{digits}
use Rattle.trace_format.specs.Reading.{definition_of, step}
use Rattle.tracer_specification.specs.Settings.{written_flag}
use Rattle.mount_stub_files.specs.ToolTexts.{cpu_mask}
use Rattle.mount_stub_files.proofs.laws.examples_are_computed.Goals as goal

pub returns-clause-texts : goal.returns-clause-texts
unfolding cpu_mask definition_of digits step written_flag
returns-clause-texts c = record {
  enabled = refl;
  enabled_there = refl;
  disabled = refl;
  available = refl;
  not_there = refl;
  id = refl;
  no_id = refl;
  size = refl;
  size_of_cpu = refl;
  no_cpu = refl;
  total = refl;
  cpus = refl;
  no_instance = refl;
}

pub returns-clause-writes : goal.returns-clause-writes
unfolding cpu_mask definition_of digits step
returns-clause-writes c = record {
  on = refl;
  off = refl;
  system = refl;
  all = refl;
  none = refl;
  nobody = refl;
  other_system = refl;
  no_folder = refl;
  blamed = refl;
  said = refl;
  same_size = refl;
  other_size = refl;
  same_tracer = refl;
  two_tracers = refl;
  other_clock = refl;
  same_cpus = refl;
  same_threshold = refl;
  no_instance = refl;
}
