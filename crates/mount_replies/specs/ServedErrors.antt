-- What is kept of refused writes, whatever was served: of each instance the last eight since they were forgotten, each with its caret where its refusal
-- says. Theorems that speak of no program.
use Rattle.std.specs.Prelude.{◌≡◌, ◌≢◌, ◌<◌, ℕ, ⊤, Bool, true, false, not, List, [], ◌∷◌, ◌++◌, length, Option, Some, None, Err}
use Rattle.std.specs.List.{before_first, flat_map, slice_get}
use Rattle.std.proofs.Common.{inl, inr}
use Rattle.fuse_wire.specs.Replies.{reply_bytes}
use Rattle.fuse_wire.specs.Requests.{IsRequest}
use Rattle.fuse_wire.specs.declared.errno.Errno.{Errno}
use Rattle.fuse_wire.specs.declared.errno.Errno.TheVariants.{EINVAL, ENOMEM}
use Rattle.fuse_wire.specs.declared.reply.Reply.{Reply}
use Rattle.fuse_wire.specs.declared.reply.Reply.TheVariants as replies
use Rattle.fuse_wire.specs.declared.request.Operation.{Operation}
use Rattle.fuse_wire.specs.declared.request.Operation.TheVariants as operations
use Rattle.fuse_wire.specs.declared.request.Request.{Request as Asked}
use Rattle.trace_command.specs.Requests.{Request}
use Rattle.trace_command.specs.declared.refusal.Refusal.{Refusal}
use Rattle.trace_format.specs.Definitions.{Definition}
use Rattle.tracer_specification.specs.Settings.{declared_events}
use Rattle.tracer.specs.Lives.{live_answer}
use Rattle.refusal_explanations.specs.Places.{injection_offset, write_offset}
use Rattle.error_log.specs.Errors.{ErrorSeen, error_text, refused}
use Rattle.error_log.specs.LogLaws.{Change, Cleared, Noted, StandsUnder, last_eight, noted_since}
use Rattle.error_log.specs.Logs.{errors_of}
use Rattle.mount_tree.specs.Children.{is_there}
use Rattle.file_list.specs.FileKinds.{access_of_file, kind_of_file}
use Rattle.file_list.specs.declared.file.File.{File}
use Rattle.file_list.specs.declared.file.File.TheVariants as files
use Rattle.file_list.specs.declared.file.FileKind.TheVariants as kinds
use Rattle.mount_tree.specs.declared.node.Node.{Node}
use Rattle.mount_tree.specs.declared.node.Node.TheVariants as nodes
use Rattle.mount_tree.specs.declared.node.Owner.{Owner}
use Rattle.mount_stub_files.specs.ToolWrites.{tool_write}
use Rattle.mount_stub_files.specs.WrongWords.{wrong_offset}
use Rattle.mount_stub_files.specs.declared.write.ToolWrite.TheVariants as writes
use Rattle.mount_replies.specs.Errnos.{errno_of}
use Rattle.mount_replies.specs.FileWrites.{begun_now, switch_text}
use Rattle.mount_replies.specs.Lines.{asked_by_line, command_text, errno_of_fault, has_newline, is_newline, most_kept, refusal_in, written_lines}
use Rattle.mount_replies.specs.Calls.{Called, Exchanged, IsTurned, TakesTurns, Turn, noting_called, Shows}
use Rattle.mount_replies.specs.Mounted.{AreServed, Does, IsExchanged, IsNamed, IsServed, Right, TellsOwed, Unframed, Wrong}
use Rattle.mount_replies.specs.Owed.{Owed, ReplyAt, WakeupAt, owed, step_of_parked}
use Rattle.mount_replies.specs.PastLaws.{ShowsNow, just_mounted}
use Rattle.mount_replies.specs.Served.{AsksToWrite, emptying_of, is_cached, step_of}
use Rattle.mount_replies.specs.Services.{OpenSeen, Service, Terms, file_at, node_of, scene_of, without_read}
use Rattle.mount_replies.specs.Steps.{Asking, Asks, AsksFor, AsksLines, AsksNoting, Counts, Forgets, Interrupts, IsTooLong, IsWrongLine, Keeps, LineAsked, Notes, Noting, Parks, Plain, Step, Takes, Tells, write_of}
use Rattle.mount_replies.specs.Told.{empties, known, may, wants_read, wants_write}
use Rattle.mount_replies.specs.declared.fault.LineFault.{LineFault}
use Rattle.mount_replies.specs.declared.fault.LineFault.TheVariants.{NoCommand, Refused, TooLong}

-- ---- what was noted and forgotten

-- by a step
abbrev pub noting_by : (g : Terms) (before : Service) (step : Step) (reply : Option Reply) (after : Service) → Does g before step reply after → Noting
noting_by g before (Plain outcome) reply after does = Keeps
noting_by g before (Takes outcome) reply after does = Keeps
noting_by g before (Asks request outcome) reply after does = Keeps
noting_by g before (Parks read) reply after does = Keeps
noting_by g before (Interrupts unique) reply after does = Keeps
noting_by g before (AsksNoting request takes outcome noting) reply after (answer, answered, told, same) = noting answer
noting_by g before (Tells noting takes outcome) reply after (inl does) = noting
noting_by g before (Tells noting takes outcome) reply after (inr refused) = Keeps
noting_by g before (AsksLines lines outcome noting) reply after (ran, runs, told, same) = noting ran
noting_by g before (Counts count outcome) reply after does = Keeps

-- by a request
abbrev pub noting_asked : (g : Terms) (before : Service) (asked bytes : List ℕ) (after : Service) → AreServed g before asked bytes after → Noting
noting_asked g before asked bytes after (Right request is served) =
    noting_by g before (step_of g before request.unique request.pid served.node request.operation) served.reply after served.does
noting_asked g before asked bytes after (Wrong opcode unique framed none told same) = Keeps
noting_asked g before asked bytes after (Unframed none told same) = Keeps

-- by the reply of a parked read
abbrev pub noting_told : (g : Terms) (before : Service) (what : Option Owed) (bytes : List ℕ) (after : Service) → TellsOwed g before what bytes after → Noting
noting_told g before None bytes after told = Keeps
noting_told g before (Some (ReplyAt index)) bytes after told =
    noting_by g (without_read index before) (step_of_parked g before told.read) (Some told.reply) after told.does
noting_told g before (Some (WakeupAt handle)) bytes after told = Keeps

-- by an exchange, which notes one write at most
abbrev pub noting_of : (g : Terms) (before : Service) (asked bytes : List ℕ) (after : Service) → IsExchanged g before asked bytes after → Noting
noting_of g before [] bytes after told = noting_told g before (owed g before) bytes after told
noting_of g before (byte ∷ asked) bytes after (quiet, served) = noting_asked g before (byte ∷ asked) bytes after served

-- as a change of the logs
abbrev pub change_of : Noting → List Change
change_of Keeps = []
change_of (Notes error) = Noted error ∷ []
change_of (Forgets owner) = Cleared owner ∷ []

-- in a turn
abbrev pub noting_in : (g : Terms) (before : Service) (turn : Turn) (after : Service) → IsTurned g before turn after → Noting
noting_in g before (Exchanged asked bytes) after one = noting_of g before asked bytes after one
noting_in g before (Called limit request answer) after one = noting_called (scene_of g before) request answer
noting_in g before (Shows shown asked bytes) after one = Keeps

-- in all turns, the latest change first
abbrev pub changes_in : (g : Terms) (before : Service) (turns : List Turn) (after : Service) → TakesTurns g before turns after → List Change
changes_in g before [] after same = []
changes_in g before (turn ∷ turns) after (next, one, more) = changes_in g next turns after more ++ change_of (noting_in g before turn next one)

-- the writes of an instance that were refused since its errors were forgotten, oldest first
abbrev pub refused_in : (g : Terms) (turns : List Turn) (after : Service) → TakesTurns g just_mounted turns after → Owner → List ErrorSeen
refused_in g turns after served owner = noted_since owner (changes_in g just_mounted turns after served)

-- ---- the last eight are kept

abbrev pub LastEightAreKept : Type 0
LastEightAreKept =
    (g : Terms) (turns : List Turn) (after : Service) (served : TakesTurns g just_mounted turns after) (owner : Owner)
    → errors_of owner after.errors ≡ last_eight (refused_in g turns after served owner)

-- ---- what is noted

-- the file that a request writes, opens or closes: no other request notes anything
abbrev pub IsFileOf : Terms → Service → Option Node → Operation → OpenSeen → Type 0
IsFileOf g s target (operations.Open flags) file = known (scene_of g s) target ≡ Some (node_of file)
IsFileOf g s target (operations.Write handle offset lock_owner bytes) file = file_at handle s.files ≡ Some file
IsFileOf g s target (operations.Flush handle lock_owner) file = file_at handle s.files ≡ Some file
IsFileOf g s target (operations.Release handle) file = file_at handle s.files ≡ Some file
IsFileOf g s target _ file = ⊥

-- a request writes this text
abbrev pub Writes : Operation → List ℕ → Type 0
Writes (operations.Write handle offset lock_owner bytes) text = bytes ≡ text
Writes _ text = ⊥

-- or opens a file with these flags
abbrev pub Opens : Operation → ℕ → Type 0
Opens (operations.Open flags) asked = flags ≡ asked
Opens _ asked = ⊥

-- `echo TEXT > FILE` in the instance of an open file is refused
abbrev pub IsNotWritten : Terms → Service → OpenSeen → File → List ℕ → Refusal → Type 0
IsNotWritten g s file asked text refusal = live_answer g.config s.past (write_of (scene_of g s) (nodes.File file.owner asked) false text) ≡ Err refusal

-- or may end lines of a stream: it writes to a file, flushes or closes it
abbrev pub EndsLines : Operation → Type 0
EndsLines (operations.Write handle offset lock_owner bytes) = ⊤
EndsLines (operations.Flush handle lock_owner) = ⊤
EndsLines (operations.Release handle) = ⊤
EndsLines _ = ⊥

-- the event of an `inject`
abbrev pub event_injected : Service → File → Option Definition
event_injected s (files.Inject event) = slice_get (declared_events s.past) event
event_injected s _ = None

-- what was written to an open `inject` and not done: what it kept, and what this request writes
abbrev pub bytes_written : Operation → List ℕ
bytes_written (operations.Write handle offset lock_owner bytes) = bytes
bytes_written _ = []

abbrev pub not_done : OpenSeen → Operation → List ℕ
not_done file operation = file.stream.rest ++ bytes_written operation

-- the first line of that: what comes before the first newline
abbrev pub first_not_done : OpenSeen → Operation → List ℕ
first_not_done file operation = before_first is_newline (not_done file operation)

-- and the process whose event it is: the one that writes now, or, where nothing is written, that wrote what was kept
abbrev pub writer_of : OpenSeen → Operation → ℕ → ℕ
writer_of file (operations.Write handle offset lock_owner bytes) pid = pid
writer_of file _ pid = file.stream.pid

-- what is asked for a line is refused for this after these requests
abbrev pub IsRefusedFor : Terms → List Request → LineFault → Asking → Type 0
IsRefusedFor g past (Refused refusal) (AsksFor command) = live_answer g.config past command ≡ Err refusal
IsRefusedFor g past NoCommand IsWrongLine = ⊤
IsRefusedFor g past TooLong IsTooLong = ⊤
IsRefusedFor g past _ _ = ⊥

-- the first of these lines, which has this text, is refused for this
pub record IsFirstRefused (g : Terms) (past : List Request) (lines : List LineAsked) (text : List ℕ) (fault : LineFault) : Type 0 where
  pub first : LineAsked
  pub more : List LineAsked
  pub lines_are : lines ≡ first ∷ more
  pub text_is : text ≡ first.text
  pub refused : IsRefusedFor g past fault first.asking

-- what an open file keeps of what was written to it: a line that has not ended, and nothing before a newline was written
pub record KeepsLine (file : OpenSeen) : Type 0 where
  pub unended : has_newline file.stream.rest ≡ false
  pub streamed : file.stream.is_stream ≡ false → file.stream.rest ≡ []

-- so it is of each open file, whatever was served (`OpenFilesKeepLines`)
abbrev pub KeepLines : Service → Type 0
KeepLines s = (handle : ℕ) (file : OpenSeen) → file_at handle s.files ≡ Some file → KeepsLine file

-- this line of `inject` is the first that was not done, and is refused for this
abbrev pub IsFirstNotDone : Terms → Service → ℕ → Operation → OpenSeen → Definition → List ℕ → LineFault → Type 0
IsFirstNotDone g s pid operation file event text fault =
    (text ≡ first_not_done file operation) × IsRefusedFor g s.past fault (asked_by_line g.config.cpus (writer_of file operation pid) event text)

-- or it is the first and all that was not done, and is too long
abbrev pub IsAllNotDone : Operation → OpenSeen → List ℕ → Type 0
IsAllNotDone operation file text = (text ≡ first_not_done file operation) × (text ≡ not_done file operation) × (most_kept < length text)

-- which byte of a text is to blame that a request of this process was to write to a file, where this error was told
pub data IsBlamed (g : Terms) (s : Service) (pid : ℕ) (operation : Operation) (file : OpenSeen) (text : List ℕ) (offset : ℕ) (errno : Errno) : Type 0 where
  -- of a command, which is the first line that was written and is not blank, the one that its refusal says
  OfCommand : (own : List ℕ) (refusal : Refusal) → Writes operation own
      → IsFirstRefused g s.past (written_lines (scene_of g s) file.owner file.file (not file.starts_over) own) text (Refused refusal) → errno ≡ errno_of refusal
      → offset ≡ write_offset (command_text file.file text) refusal → IsBlamed g s pid operation file text offset errno
  -- of a line of `inject`, the one that its fault says; where open files keep lines, it is the first line that was not done
  OfEvent : (event : Definition) (fault : LineFault) → EndsLines operation → event_injected s file.file ≡ Some event
      → (KeepLines s → IsFirstNotDone g s pid operation file event text fault) → errno ≡ errno_of_fault fault
      → offset ≡ injection_offset text (refusal_in fault) → IsBlamed g s pid operation file text offset errno
  -- of one that has not ended and is too long, the first that has no room
  OfLongLine : (event : Definition) → EndsLines operation → event_injected s file.file ≡ Some event → (KeepLines s → IsAllNotDone operation file text)
      → errno ≡ EINVAL → offset ≡ most_kept → IsBlamed g s pid operation file text offset errno
  -- of what was written to a file that tools ask for, where its first word begins, if no byte of it can be taken
  OfWord : Writes operation text → kind_of_file file.file ≡ kinds.Tool → tool_write g.config (scene_of g s) file.owner file.file text ≡ writes.Wrong
      → errno ≡ EINVAL → offset ≡ wrong_offset text → IsBlamed g s pid operation file text offset errno
  -- or if the switch that it names refuses it
  OfSwitch : (switch : File) (on : Bool) (size : ℕ) (refusal : Refusal) → Writes operation text
      → tool_write g.config (scene_of g s) file.owner file.file text ≡ writes.Switch switch on size → IsNotWritten g s file switch (switch_text on) refusal
      → errno ≡ errno_of refusal → offset ≡ wrong_offset text → IsBlamed g s pid operation file text offset errno
  -- where a file could not be emptied that was opened for that, nothing was written, and there is none
  OfNothing : (flags : ℕ) (asked : File) (emptying : List ℕ) (refusal : Refusal) → Opens operation flags
      → emptying_of file.file (empties flags) ≡ AsksToWrite asked emptying → IsNotWritten g s file asked emptying refusal
      → errno ≡ errno_of refusal → text ≡ [] → offset ≡ 0 → IsBlamed g s pid operation file text offset errno

-- A write to this file that this request was to do and that was refused by this error, when these requests were done: what is kept is the line of the byte
-- to blame, with the caret under it.
pub record IsRefusedWrite (g : Terms) (s : Service) (pid : ℕ) (operation : Operation) (past : List Request) (file : OpenSeen) (errno : Errno) (error : ErrorSeen) : Type 0 where
  pub text : List ℕ
  pub sentence : List ℕ
  pub offset : ℕ
  pub is : error ≡ refused (begun_now g (record s { past = past }) file) text sentence offset
  pub blamed : IsBlamed g s pid operation file text offset errno
  pub stands : StandsUnder text offset error

-- What is noted is a write to the file that was written, opened or closed, and its refusal was told. All that the request does is done by then, which is
-- no command where each open file keeps a line.
pub record IsNoted (g : Terms) (before : Service) (request : Asked) (bytes : List ℕ) (after : Service) (error : ErrorSeen) : Type 0 where
  pub node : Option Node
  pub named : IsNamed request.node node
  pub file : OpenSeen
  pub by : IsFileOf g before node request.operation file
  pub errno : Errno
  pub write : IsRefusedWrite g before request.pid request.operation after.past file errno error
  pub told : bytes ≡ reply_bytes request.unique (replies.Error errno)
  pub undone : KeepLines before → after.past ≡ before.past

-- of every state
abbrev pub NotedWritesWereRefused : Type 0
NotedWritesWereRefused =
    (g : Terms) (before : Service) (asked bytes : List ℕ) (after : Service) (exchanged : IsExchanged g before asked bytes after) (error : ErrorSeen)
    → noting_of g before asked bytes after exchanged ≡ Notes error → (request : Asked) × IsRequest asked request × IsNoted g before request bytes after error

-- whatever was served, each open file keeps a line, so that what is noted of `inject` is the first line that was not done
abbrev pub OpenFilesKeepLines : Type 0
OpenFilesKeepLines = (g : Terms) (turns : List Turn) (after : Service) → TakesTurns g just_mounted turns after → KeepLines after

-- ---- all that are refused are noted

-- a request that may write a file: it does; or it closes or flushes an `inject`, where a line may end; or it opens a file as may be done with it
abbrev pub MayWrite : Operation → File → Type 0
MayWrite (operations.Open flags) file = may (access_of_file file) (wants_read flags) (wants_write flags) ≡ true
MayWrite (operations.Write handle offset lock_owner bytes) file = ⊤
MayWrite (operations.Flush handle lock_owner) file = kind_of_file file ≡ kinds.Inject
MayWrite (operations.Release handle) file = kind_of_file file ≡ kinds.Inject
MayWrite _ file = ⊥

-- Where such a request, about a file of an instance that is there, is told an error, that is noted; but that memory was refused is not. What is noted is
-- this refusal, as `NotedWritesWereRefused` says.
abbrev pub RefusedWritesAreNoted : Type 0
RefusedWritesAreNoted =
    (g : Terms) (before : Service) (asked bytes : List ℕ) (after : Service) (exchanged : IsExchanged g before asked bytes after) (request : Asked)
    (node : Option Node) (file : OpenSeen) (errno : Errno)
    → IsRequest asked request → IsNamed request.node node → IsFileOf g before node request.operation file → MayWrite request.operation file.file
    → is_there (scene_of g before) (node_of file) ≡ true → errno ≢ ENOMEM → bytes ≡ reply_bytes request.unique (replies.Error errno)
    → (error : ErrorSeen) × (noting_of g before asked bytes after exchanged ≡ Notes error)

-- ---- what is shown

-- A READ of an `error_log` at offset 0, whatever was served before it: it shows the last eight, one after another.
abbrev pub LogReadsShowTheLastEight : Type 0
LogReadsShowTheLastEight =
    (g : Terms) (turns : List Turn) (before after : Service) (request : Asked) (bytes : List ℕ) (handle size read_flags flags : ℕ) (file : OpenSeen)
    → (served : TakesTurns g just_mounted turns before) → IsServed g before request bytes after
    → request.operation ≡ operations.Read handle 0 size read_flags flags → is_cached read_flags ≡ false → file_at handle before.files ≡ Some file
    → kind_of_file file.file ≡ kinds.ErrorLog → is_there (scene_of g before) (node_of file) ≡ true
    → ShowsNow before request.unique handle size (flat_map error_text (last_eight (refused_in g turns before served file.owner))) bytes after
