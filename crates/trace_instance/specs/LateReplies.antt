-- Replies that are made later, of a copy: what they are, and what a read shows whose reply is one.
use Rattle.std.specs.Prelude.{ℕ, List, Option, Some, None, Result, Ok, Err}
use Rattle.trace_command.specs.Paths.{File, OfInstance, OfCpu, OfEvent}
use Rattle.trace_command.specs.declared.command.Reply.{Reply}
use Rattle.trace_command.specs.declared.command.Reply.TheVariants.{Text}
use Rattle.trace_command.specs.declared.file_name.CpuFile.TheVariants as per_cpu
use Rattle.trace_command.specs.declared.file_name.EventFile.TheVariants as per_event
use Rattle.trace_command.specs.declared.file_name.TopFile.TheVariants as top
use Rattle.trace_command.specs.declared.refusal.Refusal.{Refusal}
use Rattle.record_text.specs.CopyText.{copied_text}
use Rattle.trace_format.specs.Definitions.{Definition}
use Rattle.trace_text.specs.CopiedHists.{copied_hist_text}
use Rattle.trace_instance.specs.Files.{name_at}
use Rattle.trace_instance.specs.declared.late_reply.Copied.{Copied}
use Rattle.trace_instance.specs.declared.late_reply.LateReply.{LateReply}
use Rattle.trace_instance.specs.declared.late_reply.LateReply.TheVariants.{Made, Trace, Hists}
use Rattle.trace_instance.specs.declared.read.Shown.{Shown}

-- the reply
abbrev pub reply_of : LateReply → Reply
reply_of (Made reply) = reply
reply_of (Trace events copy) = Text (copied_text events copy)
reply_of (Hists hists) = Text (copied_hist_text hists.items)

-- what a read shows, once its reply is made
abbrev pub shown_by : Copied → Shown
shown_by copied = record { change = copied.change; reply = reply_of copied.late }

abbrev pub shown_of : Result Copied Refusal → Result Shown Refusal
shown_of (Ok copied) = Ok (shown_by copied)
shown_of (Err refusal) = Err refusal

-- the file that shows the trace of one CPU, or of all
abbrev pub trace_file : Option ℕ → File
trace_file None = OfInstance top.Trace
trace_file (Some cpu) = OfCpu cpu per_cpu.Trace

-- the file that shows the histograms of an event
abbrev pub hist_file : List Definition → ℕ → File
hist_file events event = OfEvent (name_at events event) per_event.Hist
