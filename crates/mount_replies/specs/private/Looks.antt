-- Looks at files: the pipe that one is.
use Rattle.std.specs.Prelude.{ℕ, nat_lt, Option, Some, None, if◌then◌else◌}
use Rattle.trace_command.specs.declared.file_name.CpuFile.TheVariants as per_cpu
use Rattle.trace_command.specs.declared.file_name.TopFile.TheVariants as top
use Rattle.trace_instance.specs.declared.file.File.{File as Opened}
use Rattle.trace_instance.specs.declared.file.File.TheVariants as opened
use Rattle.file_list.specs.declared.file.File.{File}
use Rattle.file_list.specs.declared.file.File.TheVariants.{OfInstance, OfCpu, RawPipe}

-- the pipe that a file is, if it is one of a CPU that is there
abbrev pub pipe_in : ℕ → File → Option Opened
pipe_in cpus (OfInstance top.TracePipe) = Some (opened.OfInstance top.TracePipe)
pipe_in cpus (OfCpu cpu per_cpu.TracePipe) = if nat_lt cpu cpus then Some (opened.OfCpu cpu per_cpu.TracePipe) else None
pipe_in cpus (RawPipe cpu) = if nat_lt cpu cpus then Some (opened.OfCpu cpu per_cpu.TracePipe) else None
pipe_in cpus file = None
