-- Whether a record waits to be read in a pipe (ftrace.rst, "The File System": a read of a pipe with no record blocks there). That is asked by no
-- request, and changes nothing.
use Rattle.std.specs.Prelude.{ℕ, Bool, List, Option, Result, Ok, Err}
use Rattle.trace_buffer.specs.Families.{any_has_waiting, cpu_has_waiting}
use Rattle.trace_command.specs.Paths.{File, OfInstance, OfCpu}
use Rattle.trace_command.specs.Requests.{Request}
use Rattle.trace_command.specs.declared.command.Config.{Config}
use Rattle.trace_command.specs.declared.file_name.CpuFile.TheVariants as per_cpu
use Rattle.trace_command.specs.declared.file_name.TopFile.TheVariants as top
use Rattle.trace_command.specs.declared.refusal.Refusal.{Refusal}
use Rattle.trace_command.specs.declared.refusal.Refusal.TheVariants.{NotReadable, BadValue}
use Rattle.tracer_specification.specs.History.{file_answer, instance_answer}
use Rattle.tracer_specification.specs.Rings.{rings}

-- whether one waits in a file of an instance: in the pipe of all CPUs or of one, by what its live rings keep. Other files are no pipes, and the
-- filter of all events can't even be read.
abbrev pub waits_in : Config → Option (List ℕ) → List Request → File → Result Bool Refusal
waits_in g instance past (OfInstance top.TracePipe) = Ok (any_has_waiting g.pages g.page_bytes (rings g instance past))
waits_in g instance past (OfCpu cpu per_cpu.TracePipe) = Ok (cpu_has_waiting g.pages g.page_bytes (rings g instance past) cpu)
waits_in g instance past (OfInstance top.EventsFilter) = Err NotReadable
waits_in g instance past file = Err BadValue

-- whether one waits at an address: its instance, its file, and the CPU or event of that are looked up first, as for a read
unfoldable pub waiting : Config → List Request → Option (List ℕ) → Option File → Result Bool Refusal
waiting g past instance file = instance_answer instance past (file_answer g past (waits_in g instance past) file)
