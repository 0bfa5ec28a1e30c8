-- Reads that wait, as theorems that speak of no program.
use Rattle.std.specs.Prelude.{◌≡◌, ◌⊎◌, ℕ, ◌+◌, ◌<◌, ◌==◌, Bool, false, true, is_some, List, [], ◌∷◌, ◌++◌, map, Option, Some, None, unwrap_or, Ok, Err, if◌then◌else◌}
use Rattle.std.specs.List.{slice_get}
use Rattle.fuse_wire.specs.declared.errno.Errno.TheVariants.{EINTR, EAGAIN, EBADF}
use Rattle.fuse_wire.specs.declared.reply.Reply.{Reply}
use Rattle.fuse_wire.specs.declared.reply.Reply.TheVariants as replies
use Rattle.fuse_wire.specs.declared.request.Operation.{Operation}
use Rattle.fuse_wire.specs.declared.request.Operation.TheVariants as operations
use Rattle.fuse_wire.specs.declared.request.Request.{Request as Asked}
use Rattle.trace_command.specs.Requests.{Request}
use Rattle.tracer_specification.specs.Waiting.{waiting}
use Rattle.mount_tree.specs.Children.{is_there}
use Rattle.file_list.specs.FileKinds.{kind_of_file}
use Rattle.mount_tree.specs.NodePaths.{owner_name}
use Rattle.file_list.specs.declared.file.FileKind.{FileKind}
use Rattle.file_list.specs.declared.file.FileKind.TheVariants as kinds
use Rattle.mount_replies.specs.Calls.{Called, Exchanged, IsTurned, TakesTurns, Turn, Shows}
use Rattle.mount_replies.specs.Mounted.{AreServed, Does, IsExchanged, IsReplied, IsServed, Right, TellsOwed, Unframed, Wrong}
use Rattle.mount_replies.specs.Owed.{Owed, ReplyAt, WakeupAt, is_due, owed, step_of_parked}
use Rattle.mount_replies.specs.Pipes.{ends, is_dry, is_used_up, pipe_meant, tells_end}
use Rattle.mount_replies.specs.Served.{given_records, step_of}
use Rattle.mount_replies.specs.Services.{OpenSeen, Service, Terms, file_at, node_of, scene_of, text_at, with_dry_read, without_read}
use Rattle.mount_replies.specs.Sizes.{text_in}
use Rattle.mount_replies.specs.Steps.{Asks, AsksLines, AsksNoting, Counts, Interrupts, Parks, Plain, Step, Takes, Tells}
use Rattle.mount_replies.specs.declared.parked.Parked.{Parked}

-- ---- each read is answered once

-- the number of a READ
abbrev pub read_number : ℕ → Operation → List ℕ
read_number unique (operations.Read handle offset size read_flags flags) = unique ∷ []
read_number unique _ = []

-- of one that is asked
abbrev pub number_asked : (g : Terms) (before : Service) (asked bytes : List ℕ) (after : Service) → AreServed g before asked bytes after → List ℕ
number_asked g before asked bytes after (Right request is served) = read_number request.unique request.operation
number_asked g before asked bytes after (Wrong opcode unique framed none told same) = []
number_asked g before asked bytes after (Unframed none told same) = []

-- of one that is answered at once
abbrev pub number_answered : (g : Terms) (before : Service) (asked bytes : List ℕ) (after : Service) → AreServed g before asked bytes after → List ℕ
number_answered g before asked bytes after (Right request is served) =
    if is_some served.reply then read_number request.unique request.operation else []
number_answered g before asked bytes after (Wrong opcode unique framed none told same) = []
number_answered g before asked bytes after (Unframed none told same) = []

-- and of one that was parked and gets its reply
abbrev pub number_told : (g : Terms) (before : Service) (what : Option Owed) (bytes : List ℕ) (after : Service) → TellsOwed g before what bytes after → List ℕ
number_told g before None bytes after told = []
number_told g before (Some (ReplyAt index)) bytes after told = told.read.unique ∷ []
number_told g before (Some (WakeupAt handle)) bytes after told = []

abbrev pub asked_once : (g : Terms) (before : Service) (asked bytes : List ℕ) (after : Service) → IsExchanged g before asked bytes after → List ℕ
asked_once g before [] bytes after told = []
asked_once g before (byte ∷ asked) bytes after (quiet, served) = number_asked g before (byte ∷ asked) bytes after served

abbrev pub answered_once : (g : Terms) (before : Service) (asked bytes : List ℕ) (after : Service) → IsExchanged g before asked bytes after → List ℕ
answered_once g before [] bytes after told = number_told g before (owed g before) bytes after told
answered_once g before (byte ∷ asked) bytes after (quiet, served) = number_answered g before (byte ∷ asked) bytes after served

-- in a turn; a call asks and answers no READ, and one that is served of a text that was made is answered at once
abbrev pub asked_in : (g : Terms) (before : Service) (turn : Turn) (after : Service) → IsTurned g before turn after → List ℕ
asked_in g before (Exchanged asked bytes) after one = asked_once g before asked bytes after one
asked_in g before (Called limit request answer) after one = []
asked_in g before (Shows shown asked bytes) after one = read_number one.request.unique one.request.operation

abbrev pub answered_in : (g : Terms) (before : Service) (turn : Turn) (after : Service) → IsTurned g before turn after → List ℕ
answered_in g before (Exchanged asked bytes) after one = answered_once g before asked bytes after one
answered_in g before (Called limit request answer) after one = []
answered_in g before (Shows shown asked bytes) after one = read_number one.request.unique one.request.operation

-- the numbers of all READs that were asked
abbrev pub reads_asked : (g : Terms) (before : Service) (turns : List Turn) (after : Service) → TakesTurns g before turns after → List ℕ
reads_asked g before [] after same = []
reads_asked g before (turn ∷ turns) after (next, one, more) = asked_in g before turn next one ++ reads_asked g next turns after more

-- and of all that were answered
abbrev pub reads_answered : (g : Terms) (before : Service) (turns : List Turn) (after : Service) → TakesTurns g before turns after → List ℕ
reads_answered g before [] after same = []
reads_answered g before (turn ∷ turns) after (next, one, more) = answered_in g before turn next one ++ reads_answered g next turns after more

-- how often a number is there
abbrev pub times : ℕ → List ℕ → ℕ
times unique [] = 0
times unique (number ∷ numbers) = (if number == unique then 1 else 0) + times unique numbers

abbrev pub numbers_of : List Parked → List ℕ
numbers_of reads = map (λ (read : Parked). read.unique) reads

-- the reads that waited and those that were asked are those that were answered and those that wait still
abbrev pub ReadsAreAnsweredOnce : Type 0
ReadsAreAnsweredOnce =
    (g : Terms) (before : Service) (turns : List Turn) (after : Service) (taken : TakesTurns g before turns after) (unique : ℕ)
    → times unique (numbers_of before.parked) + times unique (reads_asked g before turns after taken)
    ≡ times unique (reads_answered g before turns after taken) + times unique (numbers_of after.parked)

-- ---- no record is lost, or told twice

-- what is kept for the reads of a handle
abbrev pub kept_for : ℕ → Service → List ℕ
kept_for handle s = unwrap_or (text_at handle s.files) []

-- what the command of a step took, if it did one
abbrev pub taken_by : (g : Terms) (before : Service) (step : Step) (reply : Option Reply) (after : Service) → Does g before step reply after → List ℕ
taken_by g before (Plain outcome) reply after does = []
taken_by g before (Takes outcome) reply after does = []
taken_by g before (Asks request outcome) reply after (Ok answer, answered, told, same) = text_in answer
taken_by g before (Asks request outcome) reply after (Err refusal, answered, told, same) = []
taken_by g before (Parks read) reply after does = []
taken_by g before (Interrupts unique) reply after does = []
taken_by g before (AsksNoting request takes outcome noting) reply after (Ok answer, answered, told, same) = text_in answer
taken_by g before (AsksNoting request takes outcome noting) reply after (Err refusal, answered, told, same) = []
taken_by g before (Tells noting takes outcome) reply after does = []
taken_by g before (AsksLines lines outcome noting) reply after does = []
taken_by g before (Counts count outcome) reply after does = []

-- what a reply gives
abbrev pub given_by : Option Reply → List ℕ
given_by (Some (replies.Data bytes)) = bytes
given_by _ = []

abbrev pub is_read_of : ℕ → Operation → Bool
is_read_of handle (operations.Read other offset size read_flags flags) = other == handle
is_read_of handle _ = false

-- what a request took for a handle: nothing, if it is no READ of it
abbrev pub taken_asked : (handle : ℕ) (g : Terms) (before : Service) (asked bytes : List ℕ) (after : Service) → AreServed g before asked bytes after → List ℕ
taken_asked handle g before asked bytes after (Right request is served) =
    if is_read_of handle request.operation
    then taken_by g before (step_of g before request.unique request.pid served.node request.operation) served.reply after served.does
    else []
taken_asked handle g before asked bytes after (Wrong opcode unique framed none told same) = []
taken_asked handle g before asked bytes after (Unframed none told same) = []

-- and what its reply gave to it
abbrev pub given_asked : (handle : ℕ) (g : Terms) (before : Service) (asked bytes : List ℕ) (after : Service) → AreServed g before asked bytes after → List ℕ
given_asked handle g before asked bytes after (Right request is served) =
    if is_read_of handle request.operation then given_by served.reply else []
given_asked handle g before asked bytes after (Wrong opcode unique framed none told same) = []
given_asked handle g before asked bytes after (Unframed none told same) = []

-- the same of the reply of a parked read
abbrev pub taken_told : (handle : ℕ) (g : Terms) (before : Service) (what : Option Owed) (bytes : List ℕ) (after : Service) → TellsOwed g before what bytes after → List ℕ
taken_told handle g before None bytes after told = []
taken_told handle g before (Some (ReplyAt index)) bytes after told =
    if told.read.handle == handle then taken_by g (without_read index before) (step_of_parked g before told.read) (Some told.reply) after told.does else []
taken_told handle g before (Some (WakeupAt other)) bytes after told = []

abbrev pub given_told : (handle : ℕ) (g : Terms) (before : Service) (what : Option Owed) (bytes : List ℕ) (after : Service) → TellsOwed g before what bytes after → List ℕ
given_told handle g before None bytes after told = []
given_told handle g before (Some (ReplyAt index)) bytes after told = if told.read.handle == handle then given_by (Some told.reply) else []
given_told handle g before (Some (WakeupAt other)) bytes after told = []

-- what an exchange took for a handle, and what it gave to it
abbrev pub taken_for : (handle : ℕ) (g : Terms) (before : Service) (asked bytes : List ℕ) (after : Service) → IsExchanged g before asked bytes after → List ℕ
taken_for handle g before [] bytes after told = taken_told handle g before (owed g before) bytes after told
taken_for handle g before (byte ∷ asked) bytes after (quiet, served) = taken_asked handle g before (byte ∷ asked) bytes after served

abbrev pub given_to : (handle : ℕ) (g : Terms) (before : Service) (asked bytes : List ℕ) (after : Service) → IsExchanged g before asked bytes after → List ℕ
given_to handle g before [] bytes after told = given_told handle g before (owed g before) bytes after told
given_to handle g before (byte ∷ asked) bytes after (quiet, served) = given_asked handle g before (byte ∷ asked) bytes after served

-- in a turn; a call takes nothing for a handle, whatever it reads, and a long text is taken of no pipe
abbrev pub taken_in : (handle : ℕ) (g : Terms) (before : Service) (turn : Turn) (after : Service) → IsTurned g before turn after → List ℕ
taken_in handle g before (Exchanged asked bytes) after one = taken_for handle g before asked bytes after one
taken_in handle g before (Called limit request answer) after one = []
taken_in handle g before (Shows shown asked bytes) after one = []

abbrev pub given_in : (handle : ℕ) (g : Terms) (before : Service) (turn : Turn) (after : Service) → IsTurned g before turn after → List ℕ
given_in handle g before (Exchanged asked bytes) after one = given_to handle g before asked bytes after one
given_in handle g before (Called limit request answer) after one = []
given_in handle g before (Shows shown asked bytes) after one = []

-- Of a pipe that is open before a turn and after it: what was kept, and then what was taken, is what was given, and then what is kept. A turn that is no
-- read of the pipe's handle takes and gives nothing, so it leaves what is kept as it was. What is kept when the file is closed is lost.
abbrev pub NoRecordIsLostOrToldTwice : Type 0
NoRecordIsLostOrToldTwice =
    (g : Terms) (before : Service) (turn : Turn) (after : Service) (one : IsTurned g before turn after) (handle : ℕ) (old new : OpenSeen)
    → file_at handle before.files ≡ Some old → kind_of_file old.file ≡ kinds.Pipe → file_at handle after.files ≡ Some new
    → kept_for handle before ++ taken_in handle g before turn after one ≡ given_in handle g before turn after one ++ kept_for handle after

-- a parked read that was interrupted gets EINTR, and takes nothing; its poll, if it has one, is to be told again
abbrev pub InterruptedReadsTakeNothing : Type 0
InterruptedReadsTakeNothing =
    (g : Terms) (before after : Service) (index : ℕ) (bytes : List ℕ) (told : IsReplied g before index bytes after) → told.read.interrupted ≡ true
    → (told.reply ≡ replies.Error EINTR) × (after ≡ record (without_read index before) { files = with_dry_read false told.read.handle before.files })

-- one whose file was closed gets EBADF, and takes nothing
abbrev pub ClosedReadsTakeNothing : Type 0
ClosedReadsTakeNothing =
    (g : Terms) (before after : Service) (index : ℕ) (bytes : List ℕ) (told : IsReplied g before index bytes after) → told.read.interrupted ≡ false
    → file_at told.read.handle before.files ≡ None → (told.reply ≡ replies.Error EBADF) × (after ≡ without_read index before)

-- whatever is told asks one command at most
abbrev pub TellingDoesOneCommandAtMost : Type 0
TellingDoesOneCommandAtMost =
    (g : Terms) (before after : Service) (what : Option Owed) (bytes : List ℕ) → TellsOwed g before what bytes after
    → (after.past ≡ before.past) ⊎ ((request : Request) × (after.past ≡ request ∷ before.past))

-- of what a command took the reply has the beginning, and the open file keeps the rest
abbrev pub TakenTextIsGivenOrKept : Type 0
TakenTextIsGivenOrKept =
    (handle size : ℕ) (text : List ℕ) (files : List (Option OpenSeen)) (file : OpenSeen) → file_at handle files ≡ Some file
    → (given : List ℕ) × (kept : List ℕ) × ((given_records handle size text files).reply ≡ Some (replies.Data given))
    × (text_at handle (given_records handle size text files).files ≡ Some kept) × (given ++ kept ≡ text)

-- ---- where something waits, no read does

-- a read waits for what is not there: it was not interrupted, its file is open, nothing is kept for it, its pipe is there, nothing waits in it, and it
-- does not end
pub record WaitsForRecords (g : Terms) (s : Service) (read : Parked) : Type 0 where
  pub going : read.interrupted ≡ false
  pub file : OpenSeen
  pub is : file_at read.handle s.files ≡ Some file
  pub used_up : is_used_up file ≡ true
  pub there : is_there (scene_of g s) (node_of file) ≡ true
  pub none : waiting g.config s.past (owner_name (scene_of g s) file.owner) (pipe_meant (scene_of g s) file.file) ≡ Ok false
  pub goes_on : ends g s file ≡ false

abbrev pub NoReadWaitsForWhatIsThere : Type 0
NoReadWaitsForWhatIsThere =
    (g : Terms) (s : Service) (index : ℕ) (read : Parked) → owed g s ≡ None → slice_get s.parked index ≡ Some read → WaitsForRecords g s read

-- and no poll that is to be told: nothing is kept for its file's reads, no record waits, and the pipe doesn't end, or its reader was told already that it
-- does, or is one of binary pages, of whose end no poll is told
abbrev pub NoPollWaitsForWhatIsThere : Type 0
NoPollWaitsForWhatIsThere =
    (g : Terms) (s : Service) (handle wakeup : ℕ) (file : OpenSeen) → owed g s ≡ None → file_at handle s.files ≡ Some file
    → file.polls.wakeup ≡ Some wakeup
    → (is_used_up file ≡ true) × (is_dry g s file.owner file.file ≡ true)
    × ((ends g s file ≡ false) ⊎ ((file.polls.told_end ≡ true) ⊎ (tells_end file.file ≡ false)))

-- ---- polls are told again

-- a read was told something: data, its end, or to come again
abbrev pub IsTold : Option Reply → Type 0
IsTold None = ⊥
IsTold (Some (replies.Data bytes)) = Unit {0}
IsTold (Some (replies.Error EAGAIN)) = Unit {0}
IsTold _ = ⊥

-- a pipe, by which records are consumed as lines or as binary pages
abbrev pub IsConsumed : FileKind → Type 0
IsConsumed kinds.Pipe = Unit {0}
IsConsumed kinds.RawPipe = Unit {0}
IsConsumed kind = ⊥

-- After a READ of a pipe that a poll asked to be told of, what is left, or else what comes, is told again: no edge is lost.
abbrev pub ReadsArmPolls : Type 0
ReadsArmPolls =
    (g : Terms) (before after : Service) (request : Asked) (bytes : List ℕ) (handle offset size read_flags flags : ℕ) (old new : OpenSeen) (number : ℕ)
    → (served : IsServed g before request bytes after) → request.operation ≡ operations.Read handle offset size read_flags flags
    → file_at handle before.files ≡ Some old → IsConsumed (kind_of_file old.file) → old.polls.asked ≡ Some number
    → file_at handle after.files ≡ Some new → IsTold served.reply → new.polls.wakeup ≡ Some number

-- and so it is after one that was parked, once it gets its reply
abbrev pub ParkedReadsArmPolls : Type 0
ParkedReadsArmPolls =
    (g : Terms) (before after : Service) (index : ℕ) (bytes : List ℕ) (old new : OpenSeen) (number : ℕ) (told : IsReplied g before index bytes after)
    → file_at told.read.handle before.files ≡ Some old → IsConsumed (kind_of_file old.file) → old.polls.asked ≡ Some number
    → file_at told.read.handle after.files ≡ Some new → IsTold (Some told.reply) → new.polls.wakeup ≡ Some number

-- ---- the one that waits longest is answered first

abbrev pub OldestIsAnsweredFirst : Type 0
OldestIsAnsweredFirst =
    (g : Terms) (s : Service) (index older : ℕ) (read : Parked) → owed g s ≡ Some (ReplyAt index) → older < index → slice_get s.parked older ≡ Some read
    → is_due g s read ≡ false
