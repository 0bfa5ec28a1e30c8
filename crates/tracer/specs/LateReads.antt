-- Reads whose replies are made later, of a copy.
use Rattle.std.specs.Prelude.{Result, Ok, Err}
use Rattle.trace_command.specs.declared.command.Reply.{Reply}
use Rattle.trace_command.specs.declared.refusal.Refusal.{Refusal}
use Rattle.trace_instance.specs.LateReplies.{reply_of}
use Rattle.trace_instance.specs.declared.late_reply.LateReply.{LateReply}

-- what a read comes to, once its reply is made
abbrev pub replied : Result LateReply Refusal → Result Reply Refusal
replied (Ok late) = Ok (reply_of late)
replied (Err refusal) = Err refusal
