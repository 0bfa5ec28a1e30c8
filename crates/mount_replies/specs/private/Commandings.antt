-- What a command of the program comes to before what is owed is worked out, for the functions that run one.
use Rattle.std.specs.Prelude.{◌≡◌, ℕ, Bool, List, Option, Some, Result, Ok}
use Rattle.trace_command.specs.Paths.{SyntheticEvents}
use Rattle.trace_command.specs.Requests.{Request, WriteFile}
use Rattle.trace_command.specs.declared.command.Reply.{Reply as Answer}
use Rattle.trace_command.specs.declared.refusal.Refusal.{Refusal}
use Rattle.tracer.specs.Lives.{IsCallWithin, most_done}
use Rattle.tracer_state.specs.States.{IsPrepared}
use Rattle.tracer_state.specs.declared.state.Prepared.{Prepared}
use Rattle.mount_replies.specs.Calls.{noting_called}
use Rattle.mount_replies.specs.Mounted.{HasLedTo, MountSeen, past_after, terms_of}
use Rattle.mount_replies.specs.Steps.{Keeps, Noting, errors_after}

-- the tracer ran it where no more than so many commands are done, the folders and files follow, and this becomes of the logs
pub record HasCommanded (limit : ℕ) (past : List Request) (old new : MountSeen) (request : Request) (result : Result Answer Refusal)
    (noting : Noting) : Type 0 where
  pub call : IsCallWithin limit past new.live request result
  pub mounted : HasLedTo (past_after result request past) new
  pub terms : terms_of new ≡ terms_of old
  pub files : new.files ≡ old.files
  pub parked : new.parked ≡ old.parked
  pub errors : new.errors ≡ errors_after noting old.errors
  pub counted : new.counted ≡ old.counted

-- for all requests that can have led to it: the logs are left as they are
abbrev pub CommandsBy : MountSeen → MountSeen → Request → Result Answer Refusal → Type 0
CommandsBy old new request result = (past : List Request) → HasLedTo past old → HasCommanded most_done past old new request result Keeps

-- or they are what they are after a call
abbrev pub RunsWithin : ℕ → MountSeen → MountSeen → Request → Result Answer Refusal → Type 0
RunsWithin limit old new request result =
    (past : List Request) → HasLedTo past old → HasCommanded limit past old new request result (noting_called old.scene request result)

abbrev pub RunsBy : MountSeen → MountSeen → Request → Result Answer Refusal → Type 0
RunsBy old new request result = RunsWithin most_done old new request result

-- this text is written to the declarations
pub record IsDeclaration (text : List ℕ) (request : Request) : Type 0 where
  pub instance : Option (List ℕ)
  pub append : Bool
  pub is : request ≡ WriteFile instance (Some SyntheticEvents) append text

-- this was prepared for a request
abbrev pub IsReadied : List Request → MountSeen → Request → Prepared → Type 0
IsReadied past mount request prepared = IsPrepared mount.live.config past request mount.live.state (Ok prepared)
