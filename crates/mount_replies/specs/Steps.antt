-- What a mounted tracer does at a request of a kernel, as data: what it asks of the tracer, if anything, what it replies, and what becomes of the open
-- files and of the errors that are noted.
use Rattle.std.specs.Prelude.{ℕ, Bool, List, Option, Some, Result}
use Rattle.fuse_wire.specs.declared.errno.Errno.{Errno}
use Rattle.fuse_wire.specs.declared.reply.Reply.{Reply}
use Rattle.fuse_wire.specs.declared.reply.Reply.TheVariants as replies
use Rattle.trace_command.specs.Requests.{Request, request_of}
use Rattle.trace_command.specs.declared.command.CommandOf.TheVariants as commands
use Rattle.trace_command.specs.declared.command.Reply.{Reply as Answer}
use Rattle.trace_command.specs.declared.refusal.Refusal.{Refusal}
use Rattle.error_log.specs.Errors.{ErrorSeen}
use Rattle.error_log.specs.Logs.{cleared, noted}
use Rattle.mount_tree.specs.NodePaths.{path_of}
use Rattle.mount_tree.specs.Scenes.{SceneSeen}
use Rattle.mount_tree.specs.declared.node.Node.{Node}
use Rattle.mount_tree.specs.declared.node.Owner.{Owner}
use Rattle.mount_replies.specs.Services.{OpenSeen}
use Rattle.mount_replies.specs.declared.counted.Counted.{Counted}
use Rattle.mount_replies.specs.declared.fault.LineFault.{LineFault}
use Rattle.mount_replies.specs.declared.parked.Parked.{Parked}

-- what is replied, if anything, and the open files from then on
pub record Outcome : Type 0 where
  pub reply : Option Reply
  pub files : List (Option OpenSeen)

-- ---- writes that are refused

-- what becomes of the writes that were refused
pub data Noting : Type 0 where
  Keeps : Noting
  Notes : (error : ErrorSeen) → Noting
  Forgets : (owner : Owner) → Noting

abbrev pub errors_after : Noting → List ErrorSeen → List ErrorSeen
errors_after Keeps errors = errors
errors_after (Notes error) errors = noted error errors
errors_after (Forgets owner) errors = cleared owner errors

-- ---- lines

-- what is asked for a line: nothing of a blank one; nothing that could be, if it is wrong or too long; or a command
pub data Asking : Type 0 where
  AsksNothing : Asking
  IsWrongLine : Asking
  IsTooLong : Asking
  AsksFor : (request : Request) → Asking

-- a line of a write: its text, what is asked for it, and how many bytes of the write are done with it
pub record LineAsked : Type 0 where
  pub text : List ℕ
  pub asking : Asking
  pub end : ℕ

-- a line that is not done, and why
pub record LineRefused : Type 0 where
  pub text : List ℕ
  pub fault : LineFault

-- what doing lines one after another came to: the requests that were done by then, how many bytes of the write the lines had that are done, and the line
-- that was not, if there was one
pub record Ran : Type 0 where
  pub past : List Request
  pub done : ℕ
  pub refused : Option LineRefused

-- ---- steps

pub data Step : Type 0 where
  -- nothing is asked, and no memory taken
  Plain : (outcome : Outcome) → Step
  -- nothing is asked, but memory is taken
  Takes : (outcome : Outcome) → Step
  -- the tracer is asked this, and its answer gives the outcome
  Asks : (request : Request) (outcome : Result Answer Refusal → Outcome) → Step
  -- a read waits from now on, and has no reply yet; memory is taken
  Parks : (read : Parked) → Step
  -- the read of this number waits no more, if it does
  Interrupts : (unique : ℕ) → Step
  -- the tracer is asked this; its answer gives the outcome, and what becomes of the errors. What is done beside it may take memory.
  AsksNoting : (request : Request) (takes : Bool) (outcome : Result Answer Refusal → Outcome) (noting : Result Answer Refusal → Noting) → Step
  -- nothing is asked, and this becomes of the errors; memory may be taken
  Tells : (noting : Noting) (takes : Bool) (outcome : Outcome) → Step
  -- the tracer is asked for these lines, one after another until one is refused; how far that came gives the outcome, and what becomes of the errors
  AsksLines : (lines : List LineAsked) (outcome : Ran → Outcome) (noting : Ran → Noting) → Step
  -- nothing is asked, and this is the text that was counted last of its node; memory is taken
  Counts : (count : Counted) (outcome : Outcome) → Step

abbrev pub told : Reply → List (Option OpenSeen) → Outcome
told reply files = record { reply = Some reply; files = files }

abbrev pub plain : Reply → List (Option OpenSeen) → Step
plain reply files = Plain (told reply files)

abbrev pub taking : Reply → List (Option OpenSeen) → Step
taking reply files = Takes (told reply files)

abbrev pub failed : Errno → List (Option OpenSeen) → Step
failed errno files = plain (replies.Error errno) files

-- `cat PATH` and `take N PATH`, `echo TEXT > PATH` and `echo TEXT >> PATH`
abbrev pub read_of : SceneSeen → Node → Option ℕ → Request
read_of scene node limit = request_of (commands.Read (path_of scene node) limit)

abbrev pub write_of : SceneSeen → Node → Bool → List ℕ → Request
write_of scene node append text = request_of (commands.Write (path_of scene node) append text)
