-- What asking a command comes to that is noted if it is refused, for the functions that do so.
use Rattle.std.specs.Prelude.{◌≡◌, Bool, false, List, Result, Ok, Err}
use Rattle.fuse_wire.specs.declared.errno.Errno.{Errno}
use Rattle.trace_command.specs.Requests.{Request}
use Rattle.trace_command.specs.declared.command.Reply.{Reply as Answer}
use Rattle.trace_command.specs.declared.refusal.Refusal.{Refusal}
use Rattle.mount_replies.specs.Errnos.{errno_of}
use Rattle.mount_replies.specs.Mounted.{HasLedTo, IsAnsweredNoting, MountSeen, past_after, terms_of}
use Rattle.mount_replies.specs.Steps.{Noting, errors_after}

-- a command was asked, which leaves the open files as they are, and got this answer
pub record IsAskedNoting (past : List Request) (old new : MountSeen) (request : Request) (takes : Bool) (noting : Result Answer Refusal → Noting) (answer : Result Answer Refusal) : Type 0 where
  pub answered : IsAnsweredNoting (terms_of old) past request takes noting answer
  pub mounted : HasLedTo (past_after answer request past) new
  pub terms : terms_of new ≡ terms_of old
  pub files : new.files ≡ old.files
  pub parked : new.parked ≡ old.parked
  pub counted : new.counted ≡ old.counted
  pub errors : new.errors ≡ errors_after (noting answer) old.errors

-- it was done, or refused with this error
abbrev pub AsksNoted : List Request → MountSeen → MountSeen → Request → (Result Answer Refusal → Noting) → Result (Unit {0}) Errno → Type 0
AsksNoted past old new request noting (Ok done) = (answer : Answer) × IsAskedNoting past old new request false noting (Ok answer)
AsksNoted past old new request noting (Err errno) =
    (refusal : Refusal) × IsAskedNoting past old new request false noting (Err refusal) × (errno ≡ errno_of refusal)
