-- What a mounted tracer does, turn after turn: it serves requests and tells what is owed, and it runs commands of the program that has it, which come by
-- no request.
use Rattle.std.specs.Prelude.{◌≡◌, ◌≤◌, ⊤, ℕ, Bool, true, false, List, [], ◌∷◌, length, Some, Result, Ok}
use Rattle.trace_command.specs.Refusals.{OrMemory}
use Rattle.trace_command.specs.Requests.{FitsItsTypes, RemoveInstance, Request}
use Rattle.trace_command.specs.declared.command.Reply.{Reply as Answer}
use Rattle.trace_command.specs.declared.command.Reply.TheVariants.{Done}
use Rattle.trace_command.specs.declared.refusal.Refusal.{Refusal}
use Rattle.trace_instance.specs.MemoryTaken.{TakesNoMemory}
use Rattle.tracer.specs.Lives.{IsCallWithin, limited_answer, most_done}
use Rattle.file_list.specs.declared.folder.Folder.TheVariants as folders
use Rattle.mount_tree.specs.Scenes.{SceneSeen}
use Rattle.mount_tree.specs.declared.node.Node.TheVariants as nodes
use Rattle.mount_tree.specs.declared.node.Owner.TheVariants.{Top}
use Rattle.mount_replies.specs.Mounted.{IsExchanged, IsMounted, MountSeen, Serves, past_after, terms_of}
use Rattle.mount_replies.specs.Served.{forgotten_if_done}
use Rattle.mount_replies.specs.Services.{Service, Terms, scene_of}
use Rattle.mount_replies.specs.ShownTexts.{IsShownServed}
use Rattle.mount_replies.specs.Steps.{Keeps, Noting, errors_after}
use Rattle.mount_replies.specs.Told.{found_in}
use Rattle.mount_replies.specs.declared.shown.ShownText.{ShownText}

-- ---- turns

-- what was done in a turn: bytes were read and others written, as a request is served or what is owed is told; or a command of the program got its answer,
-- where calls do nothing more once so many commands were done; or a request was served of a text that was made beside the turns
pub data Turn : Type 0 where
  Exchanged : (asked bytes : List ℕ) → Turn
  Called : (limit : ℕ) (request : Request) (answer : Result Answer Refusal) → Turn
  Shows : (shown : ShownText) (asked bytes : List ℕ) → Turn

-- what becomes of the logs by a call: the errors of an instance that it removed are forgotten, and no refusal is noted
abbrev pub noting_called : SceneSeen → Request → Result Answer Refusal → Noting
noting_called scene (RemoveInstance (Some name)) answer = forgotten_if_done (found_in scene name (Some (nodes.Folder Top folders.Instances))) answer
noting_called scene request answer = Keeps

-- after a call: open files, reads that wait and counts are as they were
abbrev pub after_call : Terms → Request → Result Answer Refusal → Service → Service
after_call g request answer before = record before {
  past = past_after answer request before.past;
  errors = errors_after (noting_called (scene_of g before) request answer) before.errors;
}

-- The answer to a call is the one that the commands done so far give where no more than so many are done, or memory was refused; it is just that answer if
-- the command takes no memory. Requests are under no such limit.
pub record IsCallAnswered (g : Terms) (limit : ℕ) (past : List Request) (request : Request) (answer : Result Answer Refusal) : Type 0 where
  pub few : limit ≤ most_done
  pub reply : OrMemory answer (limited_answer limit g.config past request)
  pub takes_none : TakesNoMemory past request → answer ≡ limited_answer limit g.config past request

-- a turn led from a service to another; a call may come while something is owed
abbrev pub IsTurned : Terms → Service → Turn → Service → Type 0
IsTurned g before (Exchanged asked bytes) after = IsExchanged g before asked bytes after
IsTurned g before (Called limit request answer) after =
    IsCallAnswered g limit before.past request answer × (after ≡ after_call g request answer before)
IsTurned g before (Shows shown asked bytes) after = IsShownServed g before shown asked bytes after

-- one after another
abbrev pub TakesTurns : Terms → Service → List Turn → Service → Type 0
TakesTurns g before [] after = after ≡ before
TakesTurns g before (turn ∷ turns) after = (next : Service) × IsTurned g before turn next × TakesTurns g next turns after

-- the turns in which these requests were served, each with the bytes that were told
abbrev pub turns_of : List (List ℕ) → List (List ℕ) → List Turn
turns_of (asked ∷ requests) (bytes ∷ messages) = Exchanged asked bytes ∷ turns_of requests messages
turns_of _ _ = []

-- Requests are served exactly where these turns are taken, in none of which the program calls: so what holds of all turns holds of all that is served.
abbrev pub ServingIsTakingTurns : Type 0
ServingIsTakingTurns =
    (g : Terms) (before : Service) (requests messages : List (List ℕ)) (after : Service)
    → (Serves g before requests messages after → TakesTurns g before (turns_of requests messages) after)
    × (length requests ≡ length messages → TakesTurns g before (turns_of requests messages) after → Serves g before requests messages after)

-- the numbers of a call's command fit their types, as those of Rust's values do
abbrev pub CallFits : Turn → Type 0
CallFits (Exchanged asked bytes) = ⊤
CallFits (Called limit request answer) = FitsItsTypes request
CallFits (Shows shown asked bytes) = ⊤

-- ---- a call

-- the answer of a call: that it was done, if it says so, or what stands in the place for answers
abbrev pub answer_of : Bool → Result Answer Refusal → Result Answer Refusal
answer_of true answer = Ok Done
answer_of false answer = answer

-- What a call comes to where no more than so many commands are done, if these requests led to the mounted tracer before it: all that the tracer promises of
-- a command, and the mounted tracer is one to which this command led, too, if it was done. What is owed is worked out anew, and errors of an instance
-- that was removed are forgotten; the rest is as it was.
pub record IsCommanded (limit : ℕ) (past : List Request) (old new : MountSeen) (request : Request) (result : Result Answer Refusal)
    : Type 0 where
  pub call : IsCallWithin limit past new.live request result
  pub mounted : IsMounted (past_after result request past) new
  pub terms : terms_of new ≡ terms_of old
  pub files : new.files ≡ old.files
  pub parked : new.parked ≡ old.parked
  pub errors : new.errors ≡ errors_after (noting_called old.scene request result) old.errors
  pub counted : new.counted ≡ old.counted
