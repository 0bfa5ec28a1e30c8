-- What a call of a mounted tracer comes to: the step that is defined, or refused memory; and what a list of requests comes to.
use Rattle.std.specs.Prelude.{◌≡◌, ◌≢◌, ◌⊎◌, ⊤, ℕ, ◌+◌, ◌%◌, ◌^◌, if◌then◌else◌, Bool, true, is_some, List, [], ◌∷◌, Option, Some, None, Result, Ok, Err, IsOk, IsErr}
use Rattle.std.specs.List.{slice_get}
use Rattle.fuse_wire.specs.Replies.{reply_bytes, wakeup_bytes}
use Rattle.fuse_wire.specs.Requests.{IsRequest, IsFramed, has_reply}
use Rattle.fuse_wire.specs.declared.errno.Errno.TheVariants.{EINVAL, ENOMEM}
use Rattle.fuse_wire.specs.declared.reply.Reply.{Reply}
use Rattle.fuse_wire.specs.declared.reply.Reply.TheVariants as replies
use Rattle.fuse_wire.specs.declared.request.Request.{Request as Asked}
use Rattle.trace_command.specs.Refusals.{OrMemory}
use Rattle.trace_command.specs.Requests.{Request}
use Rattle.trace_command.specs.declared.command.Reply.{Reply as Answer}
use Rattle.trace_command.specs.declared.refusal.Refusal.{Refusal}
use Rattle.trace_command.specs.declared.refusal.Refusal.TheVariants.{Memory}
use Rattle.tracer_specification.specs.Settings.{declares, made, removed}
use Rattle.trace_instance.specs.MemoryTaken.{TakesNoMemory}
use Rattle.tracer.specs.LiveSeen.{LiveSeen}
use Rattle.tracer.specs.Lives.{IsLive, live_answer}
use Rattle.error_log.specs.Errors.{ErrorSeen}
use Rattle.mount_tree.specs.Nodes.{FitsItsTypes, number_of}
use Rattle.mount_tree.specs.Scenes.{SceneSeen}
use Rattle.mount_tree.specs.ScenesAfter.{scene_after}
use Rattle.mount_tree.specs.declared.node.Node.{Node}
use Rattle.mount_replies.specs.Owed.{Owed, ReplyAt, WakeupAt, owed, step_of_parked}
use Rattle.mount_replies.specs.Served.{step_of}
use Rattle.mount_replies.specs.Services.{OpenSeen, Service, Terms, most_data, wakeup_at, with_count, with_interrupted, with_read, without_read, without_wakeup}
use Rattle.mount_replies.specs.Steps.{Asking, Asks, AsksFor, AsksLines, AsksNothing, AsksNoting, Counts, Interrupts, IsTooLong, IsWrongLine, LineAsked, Notes, Noting, Outcome, Parks, Plain, Ran, Step, Takes, Tells, errors_after}
use Rattle.mount_replies.specs.declared.parked.Parked.{Parked}
use Rattle.mount_replies.specs.declared.counted.Counted.{Counted}
use Rattle.mount_replies.specs.declared.fault.LineFault.{LineFault}
use Rattle.mount_replies.specs.declared.fault.LineFault.TheVariants.{NoCommand, Refused, TooLong}

-- ---- a mounted tracer

-- a mounted tracer, as contracts see it; `owes`: something has to be told before the next request is answered
pub record MountSeen : Type 0 where
  pub live : LiveSeen
  pub scene : SceneSeen
  pub files : List (Option OpenSeen)
  pub parked : List Parked
  pub errors : List ErrorSeen
  pub counted : List Counted
  pub owes : Bool
  pub uid : ℕ
  pub gid : ℕ
  pub mode : ℕ

abbrev pub terms_of : MountSeen → Terms
terms_of mount = record { config = mount.live.config; uid = mount.uid; gid = mount.gid; mode = mount.mode }

-- what it is after these requests
abbrev pub service_of : List Request → MountSeen → Service
service_of past mount =
    record { past = past; files = mount.files; parked = mount.parked; errors = mount.errors; counted = mount.counted }

-- these requests led to the tracer, and its folders and files are those that they say
pub record HasLedTo (past : List Request) (mount : MountSeen) : Type 0 where
  pub lives : IsLive mount.live.config past mount.live
  pub scene : mount.scene ≡ scene_after mount.live.config.cpus past

-- and it owes something exactly if that is defined
pub record IsMounted (past : List Request) (mount : MountSeen) : Type 0 where
  pub lives : IsLive mount.live.config past mount.live
  pub scene : mount.scene ≡ scene_after mount.live.config.cpus past
  pub owes : mount.owes ≡ is_some (owed (terms_of mount) (service_of past mount))

-- ---- what a step comes to

-- a request that is done is one more
abbrev pub past_after : Result Answer Refusal → Request → List Request → List Request
past_after (Ok answer) request past = request ∷ past
past_after (Err refusal) request past = past

-- this is the answer that the commands done so far give a command, or that memory was refused
abbrev pub MayAnswer : Terms → List Request → Request → Result Answer Refusal → Type 0
MayAnswer g past request answer = OrMemory answer (live_answer g.config past request)

-- a command got such an answer, and just its answer if it takes no memory
pub record IsAnswered (g : Terms) (past : List Request) (request : Request) (answer : Result Answer Refusal) : Type 0 where
  pub reply : MayAnswer g past request answer
  pub takes_none : TakesNoMemory past request → answer ≡ live_answer g.config past request

-- an error is noted
abbrev pub IsNote : Noting → Type 0
IsNote (Notes error) = ⊤
IsNote noting = ⊥

-- one whose refusal is to be noted: or there was no memory to note that, or for what is done beside it if that takes any
abbrev pub IsAnsweredNoting : Terms → List Request → Request → Bool → (Result Answer Refusal → Noting) → Result Answer Refusal → Type 0
IsAnsweredNoting g past request takes noting answer =
    IsAnswered g past request answer
    ⊎ ((answer ≡ Err Memory) × (IsNote (noting (live_answer g.config past request)) ⊎ (takes ≡ true)))

-- a line's command, whose refusal may be noted
abbrev pub IsLineAnswered : Terms → List Request → Request → Result Answer Refusal → Type 0
IsLineAnswered g past request answer =
    IsAnswered g past request answer ⊎ ((answer ≡ Err Memory) × IsErr (live_answer g.config past request))

abbrev pub after_outcome : List Request → Outcome → Service → Service
after_outcome past outcome before = record before { past = past; files = outcome.files }

abbrev pub after_noting : List Request → Outcome → Noting → Service → Service
after_noting past outcome noting before = record before { past = past; files = outcome.files; errors = errors_after noting before.errors }

abbrev pub after_count : Counted → Outcome → Service → Service
after_count count outcome before = record before { files = outcome.files; counted = with_count count before.counted }

-- ---- lines one after another

-- they came so far
abbrev pub all_done : List Request → ℕ → Ran
all_done past done = record { past = past; done = done; refused = None }

abbrev pub stopped_at : List Request → ℕ → List ℕ → LineFault → Ran
stopped_at past done text fault = record { past = past; done = done; refused = Some (record { text = text; fault = fault }) }

-- a line that is no command isn't done, or memory was refused before that was seen
abbrev pub StopsAt : List Request → ℕ → List ℕ → LineFault → Ran → Type 0
StopsAt past done text fault ran =
    (ran ≡ stopped_at past done text fault) ⊎ (ran ≡ stopped_at past done text (Refused Memory))

-- the answer to a line's command, after which the others are done, or none is
abbrev pub GoesOnIf : List Request → ℕ → List ℕ → Request → (List Request → Type 0) → Ran → Result Answer Refusal → Type 0
GoesOnIf past done text request more ran (Ok answer) = more (request ∷ past)
GoesOnIf past done text request more ran (Err refusal) = ran ≡ stopped_at past done text (Refused refusal)

-- what is asked for a line was asked after these requests, and `more` says what comes of the lines after it
abbrev pub IsLineRun : Terms → List Request → ℕ → List ℕ → (List Request → Type 0) → Ran → Asking → Type 0
IsLineRun g past done text more ran AsksNothing = more past
IsLineRun g past done text more ran IsWrongLine = StopsAt past done text NoCommand ran
IsLineRun g past done text more ran IsTooLong = StopsAt past done text TooLong ran
IsLineRun g past done text more ran (AsksFor request) =
    (answer : Result Answer Refusal) × IsLineAnswered g past request answer × GoesOnIf past done text request more ran answer

-- these lines were done after these requests, and so many bytes before them, until one was refused
abbrev pub IsRun : Terms → List Request → ℕ → List LineAsked → Ran → Type 0
IsRun g past done [] ran = ran ≡ all_done past done
IsRun g past done (line ∷ lines) ran =
    IsLineRun g past done line.text (λ (now : List Request). IsRun g now line.end lines ran) ran line.asking

-- what is asked for a line takes no memory and can be done, or if nothing is asked for it, `more` says so of the lines after it
abbrev pub AsksDone : Terms → List Request → Type 0 → Asking → Type 0
AsksDone g past more AsksNothing = more
AsksDone g past more (AsksFor request) = TakesNoMemory past request × IsOk (live_answer g.config past request)
AsksDone g past more wrong = ⊥

-- the first of these lines for which anything is asked is such
abbrev pub BeginsDone : Terms → List Request → List LineAsked → Type 0
BeginsDone g past [] = ⊥
BeginsDone g past (line ∷ lines) = AsksDone g past (BeginsDone g past lines) line.asking

-- or memory was refused before the first, which it is not if that takes none
abbrev pub MayRun : Terms → List Request → List LineAsked → Ran → Type 0
MayRun g past lines ran = IsRun g past 0 lines ran ⊎ ((ran ≡ stopped_at past 0 [] (Refused Memory)) × (BeginsDone g past lines → ⊥))

-- ---- steps

-- with this reply, if any, a step led from a service to another. Where memory is refused, ENOMEM is replied, and nothing has changed.
abbrev pub Does : Terms → Service → Step → Option Reply → Service → Type 0
Does g before (Plain outcome) reply after =
    (reply ≡ outcome.reply) × (after ≡ after_outcome before.past outcome before)
Does g before (Takes outcome) reply after =
    ((reply ≡ outcome.reply) × (after ≡ after_outcome before.past outcome before))
    ⊎ ((reply ≡ Some (replies.Error ENOMEM)) × (after ≡ before))
Does g before (Asks request outcome) reply after =
    (answer : Result Answer Refusal) × IsAnswered g before.past request answer × (reply ≡ (outcome answer).reply)
    × (after ≡ after_outcome (past_after answer request before.past) (outcome answer) before)
Does g before (Parks read) reply after =
    ((reply ≡ None) × (after ≡ with_read read before)) ⊎ ((reply ≡ Some (replies.Error ENOMEM)) × (after ≡ before))
Does g before (Interrupts unique) reply after = (reply ≡ None) × (after ≡ with_interrupted unique before)
Does g before (AsksNoting request takes outcome noting) reply after =
    (answer : Result Answer Refusal) × IsAnsweredNoting g before.past request takes noting answer × (reply ≡ (outcome answer).reply)
    × (after ≡ after_noting (past_after answer request before.past) (outcome answer) (noting answer) before)
Does g before (Tells noting takes outcome) reply after =
    ((reply ≡ outcome.reply) × (after ≡ after_noting before.past outcome noting before))
    ⊎ ((takes ≡ true) × (reply ≡ Some (replies.Error ENOMEM)) × (after ≡ before))
Does g before (AsksLines lines outcome noting) reply after =
    (ran : Ran) × MayRun g before.past lines ran × (reply ≡ (outcome ran).reply)
    × (after ≡ after_noting ran.past (outcome ran) (noting ran) before)
Does g before (Counts count outcome) reply after =
    ((reply ≡ outcome.reply) × (after ≡ after_count count outcome before)) ⊎ ((reply ≡ Some (replies.Error ENOMEM)) × (after ≡ before))

-- the node of a number, if it is one's: by the low bits alone, since binary pages are told by several numbers
abbrev pub IsNamed : ℕ → Option Node → Type 0
IsNamed number None = (node : Node) → FitsItsTypes node → number_of node ≢ number % 2 ^ 47
IsNamed number (Some node) = FitsItsTypes node × (number_of node ≡ number % 2 ^ 47)

-- the bytes of a reply, none where there is none
abbrev pub bytes_of_reply : ℕ → Option Reply → List ℕ
bytes_of_reply unique None = []
bytes_of_reply unique (Some reply) = reply_bytes unique reply

-- a request was served so
pub record IsServed (g : Terms) (before : Service) (request : Asked) (bytes : List ℕ) (after : Service) : Type 0 where
  pub node : Option Node
  pub named : IsNamed request.node node
  pub reply : Option Reply
  pub does : Does g before (step_of g before request.unique request.pid node request.operation) reply after
  pub told : bytes ≡ bytes_of_reply request.unique reply

-- a wrong body is answered EINVAL, where the opcode has a reply
abbrev pub wrong_reply : ℕ → ℕ → List ℕ
wrong_reply opcode unique = if has_reply opcode then reply_bytes unique (replies.Error EINVAL) else []

-- bytes that are a request are served; framed ones with a wrong body are told so; others are not answered
pub data AreServed (g : Terms) (before : Service) (asked bytes : List ℕ) (after : Service) : Type 0 where
  Right : (request : Asked) → IsRequest asked request → IsServed g before request bytes after
      → AreServed g before asked bytes after
  Wrong : (opcode unique : ℕ) → IsFramed asked opcode unique → ((request : Asked) → IsRequest asked request → ⊥)
      → bytes ≡ wrong_reply opcode unique → after ≡ before
      → AreServed g before asked bytes after
  Unframed : ((opcode unique : ℕ) → IsFramed asked opcode unique → ⊥) → bytes ≡ [] → after ≡ before
      → AreServed g before asked bytes after

-- ---- what is owed

-- the parked read at this index waits no more, and got its reply
pub record IsReplied (g : Terms) (before : Service) (index : ℕ) (bytes : List ℕ) (after : Service) : Type 0 where
  pub read : Parked
  pub is : slice_get before.parked index ≡ Some read
  pub reply : Reply
  pub does : Does g (without_read index before) (step_of_parked g before read) (Some reply) after
  pub told : bytes ≡ reply_bytes read.unique reply

-- the poll of the file of this handle was told that it is ready, and is not told again
pub record IsWoken (before : Service) (handle : ℕ) (bytes : List ℕ) (after : Service) : Type 0 where
  pub wakeup : ℕ
  pub is : wakeup_at handle before.files ≡ Some wakeup
  pub told : bytes ≡ wakeup_bytes wakeup
  pub now : after ≡ record before { files = without_wakeup handle before.files }

-- what is owed was told
abbrev pub TellsOwed : Terms → Service → Option Owed → List ℕ → Service → Type 0
TellsOwed g before None bytes after = ⊥
TellsOwed g before (Some (ReplyAt index)) bytes after = IsReplied g before index bytes after
TellsOwed g before (Some (WakeupAt handle)) bytes after = IsWoken before handle bytes after

-- ---- requests one after another

-- What is written next, for these bytes that were read: for none, something that is owed; for a request its reply, where nothing is owed.
abbrev pub IsExchanged : Terms → Service → List ℕ → List ℕ → Service → Type 0
IsExchanged g before [] bytes after = TellsOwed g before (owed g before) bytes after
IsExchanged g before (byte ∷ asked) bytes after = (owed g before ≡ None) × AreServed g before (byte ∷ asked) bytes after

-- one after another, each with the bytes that are told
abbrev pub Serves : Terms → Service → List (List ℕ) → List (List ℕ) → Service → Type 0
Serves g before [] [] after = after ≡ before
Serves g before (asked ∷ requests) (bytes ∷ replies) after =
    (next : Service) × IsExchanged g before asked bytes next × Serves g next requests replies after
Serves g before _ _ after = ⊥

-- ---- steps of calls

-- what a call comes to, if these requests led to the mounted tracer before it
pub record IsStep (past : List Request) (old new : MountSeen) (step : Step) (reply : Option Reply) : Type 0 where
  pub after : List Request
  pub mounted : HasLedTo after new
  pub terms : terms_of new ≡ terms_of old
  pub does : Does (terms_of old) (service_of past old) step reply (service_of after new)

-- a step and the bytes of its reply
pub record IsTold (past : List Request) (old new : MountSeen) (step : Step) (unique : ℕ) (bytes : List ℕ) : Type 0 where
  pub reply : Option Reply
  pub is : IsStep past old new step reply
  pub bytes_are : bytes ≡ bytes_of_reply unique reply

-- a request is served in this step
pub record IsSteppedBy (past : List Request) (old new : MountSeen) (request : Asked) (bytes : List ℕ) : Type 0 where
  pub after : List Request
  pub mounted : HasLedTo after new
  pub terms : terms_of new ≡ terms_of old
  pub served : IsServed (terms_of old) (service_of past old) request bytes (service_of after new)

-- and one that asks a command and leaves the open files as they are
pub record IsAsked (past : List Request) (old new : MountSeen) (request : Request) (answer : Result Answer Refusal) : Type 0 where
  pub answered : IsAnswered (terms_of old) past request answer
  pub mounted : HasLedTo (past_after answer request past) new
  pub terms : terms_of new ≡ terms_of old
  pub files : new.files ≡ old.files
  pub parked : new.parked ≡ old.parked
  pub errors : new.errors ≡ old.errors
  pub counted : new.counted ≡ old.counted

-- the parked read at this index got its reply
pub record IsReplying (past : List Request) (old new : MountSeen) (index : ℕ) (bytes : List ℕ) : Type 0 where
  pub after : List Request
  pub mounted : HasLedTo after new
  pub terms : terms_of new ≡ terms_of old
  pub told : IsReplied (terms_of old) (service_of past old) index bytes (service_of after new)

-- the poll of the file of this handle was told
pub record IsWaking (past : List Request) (old new : MountSeen) (handle : ℕ) (bytes : List ℕ) : Type 0 where
  pub mounted : HasLedTo past new
  pub terms : terms_of new ≡ terms_of old
  pub told : IsWoken (service_of past old) handle bytes (service_of past new)

-- the same for all requests that can have led to it
abbrev pub StepsBy : MountSeen → MountSeen → Step → Reply → Type 0
StepsBy old new step reply = (past : List Request) → HasLedTo past old → IsStep past old new step (Some reply)

abbrev pub TellsBy : MountSeen → MountSeen → Step → ℕ → List ℕ → Type 0
TellsBy old new step unique bytes = (past : List Request) → HasLedTo past old → IsTold past old new step unique bytes

abbrev pub AsksBy : MountSeen → MountSeen → Request → Result Answer Refusal → Type 0
AsksBy old new request answer = (past : List Request) → HasLedTo past old → IsAsked past old new request answer

-- this request neither declares an event nor makes or removes an instance
pub record IsQuiet (request : Request) : Type 0 where
  pub makes_none : made request ≡ None
  pub removes_none : removed request ≡ None
  pub declares_none : declares request ≡ None

-- ---- calls

-- the most bytes that a reply has
abbrev pub most_reply : ℕ
most_reply = 16 + most_data

-- what serving these bytes comes to, if these requests led to the mounted tracer before it
pub record IsCalled (past : List Request) (old new : MountSeen) (asked bytes : List ℕ) : Type 0 where
  pub after : List Request
  pub mounted : IsMounted after new
  pub terms : terms_of new ≡ terms_of old
  pub nothing_owed : owed (terms_of old) (service_of past old) ≡ None
  pub served : AreServed (terms_of old) (service_of past old) asked bytes (service_of after new)

-- a request is served
pub record IsServedBy (past : List Request) (old new : MountSeen) (request : Asked) (bytes : List ℕ) : Type 0 where
  pub after : List Request
  pub mounted : IsMounted after new
  pub terms : terms_of new ≡ terms_of old
  pub served : IsServed (terms_of old) (service_of past old) request bytes (service_of after new)

-- what telling something that is owed comes to
pub record IsOwedCalled (past : List Request) (old new : MountSeen) (bytes : List ℕ) : Type 0 where
  pub after : List Request
  pub mounted : IsMounted after new
  pub terms : terms_of new ≡ terms_of old
  pub told : TellsOwed (terms_of old) (service_of past old) (owed (terms_of old) (service_of past old)) bytes (service_of after new)
