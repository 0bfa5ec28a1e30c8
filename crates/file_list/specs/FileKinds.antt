-- How the files of a mounted tracer can be used, as docs/FILES.md says.
use Rattle.std.specs.Prelude.{Bool, true, false, map, get_or}
use Rattle.trace_command.specs.declared.file_name.CpuFile.TheVariants as per_cpu
use Rattle.trace_command.specs.declared.file_name.EventFile.TheVariants as per_event
use Rattle.trace_command.specs.declared.file_name.TopFile.TheVariants as top
use Rattle.file_list.specs.FileTable.{file_row}
use Rattle.file_list.specs.declared.access.Access.{Access}
use Rattle.file_list.specs.declared.access.Access.TheVariants as access
use Rattle.file_list.specs.declared.file.File.{File}
use Rattle.file_list.specs.declared.file.File.TheVariants.{SyntheticEvents, OfInstance, SystemEnable, OfCpu, OfEvent, Inject, Tool, OfTop, CpuSize, EventId, ErrorLog, Layout, RawPipe}
use Rattle.file_list.specs.declared.file.FileKind.{FileKind}
use Rattle.file_list.specs.declared.file.FileKind.TheVariants as kinds
use Rattle.file_list.specs.declared.files.TheConstants.{FILES}

abbrev pub access_of_file : File → Access
access_of_file file = get_or (map (λ row. row.2) FILES) (file_row file) access.Read

-- a trace, which a write by `>` clears, a pipe, whose reads consume and give lines or a binary page, the file that emits, one that a mount makes itself, or
-- a text that a command reads
abbrev pub kind_of_file : File → FileKind
kind_of_file (OfInstance top.Trace) = kinds.Trace
kind_of_file (OfInstance top.TracePipe) = kinds.Pipe
kind_of_file (OfCpu cpu per_cpu.Trace) = kinds.Trace
kind_of_file (OfCpu cpu per_cpu.TracePipe) = kinds.Pipe
kind_of_file (Inject event) = kinds.Inject
kind_of_file (Tool file) = kinds.Tool
kind_of_file (OfTop file) = kinds.Tool
kind_of_file (CpuSize cpu) = kinds.Tool
kind_of_file (EventId event) = kinds.Tool
kind_of_file ErrorLog = kinds.ErrorLog
kind_of_file (Layout file) = kinds.Tool
kind_of_file (RawPipe cpu) = kinds.RawPipe
kind_of_file (OfEvent event per_event.Format) = kinds.Tool
kind_of_file _ = kinds.Text

-- whether a write of several lines is a command a line
abbrev pub takes_lines : File → Bool
takes_lines SyntheticEvents = true
takes_lines (OfEvent event per_event.Trigger) = true
takes_lines _ = false
