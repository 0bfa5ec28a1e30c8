-- What steps come to.
use Rattle.std.proofs.Common.{◌≡◌, ℕ, Bool, List, [], Option, Some, Result, refl, sym, ap, ◌∙◌, inl, inr}
use Rattle.fuse_wire.specs.Replies.{reply_bytes}
use Rattle.fuse_wire.specs.declared.errno.Errno.TheVariants.{ENOMEM}
use Rattle.fuse_wire.specs.declared.reply.Reply.{Reply}
use Rattle.fuse_wire.specs.declared.reply.Reply.TheVariants as replies
use Rattle.trace_command.specs.Requests.{Request}
use Rattle.trace_command.specs.declared.command.Reply.{Reply as Answer}
use Rattle.trace_command.specs.declared.refusal.Refusal.{Refusal}
use Rattle.trace_command.specs.declared.refusal.Refusal.TheVariants.{Memory}
use Rattle.error_log.specs.Errors.{ErrorSeen}
use Rattle.mount_replies.specs.Mounted.{BeginsDone, HasLedTo, IsAsked, IsRun, IsStep, IsTold, MountSeen, past_after, stopped_at, terms_of}
use Rattle.mount_replies.specs.Services.{OpenSeen}
use Rattle.mount_replies.specs.Steps.{Asks, AsksLines, AsksNoting, Keeps, LineAsked, Noting, Outcome, Parks, Ran, Step, Takes, Tells, errors_after, plain, told}
use Rattle.mount_replies.specs.declared.counted.Counted.{Counted}
use Rattle.mount_replies.specs.declared.fault.LineFault.TheVariants.{Refused}
use Rattle.mount_replies.specs.declared.parked.Parked.{Parked}
use Rattle.mount_replies.specs.private.Notings.{IsAskedNoting}

-- nothing is asked
pub plain-step : (past : List Request) (old : MountSeen) (reply : Reply) (files now : List (Option OpenSeen)) → HasLedTo past old → now ≡ files
    → IsStep past old (record old { files = now }) (plain reply files) (Some reply)
plain-step past old reply files now mounted is = record {
  after = past;
  mounted = record { lives = mounted.lives; scene = mounted.scene };
  terms = refl;
  does = (refl, ap (λ (f : List (Option OpenSeen)). record { past = past; files = f; parked = old.parked; errors = old.errors; counted = old.counted }) is);
}

-- memory is refused
pub memory-step : (past : List Request) (old : MountSeen) (outcome : Outcome) → HasLedTo past old
    → IsStep past old old (Takes outcome) (Some (replies.Error ENOMEM))
memory-step past old outcome mounted = record { after = past; mounted = mounted; terms = refl; does = inr (refl, refl) }

-- a command is asked
pub asked-step : (past : List Request) (old mid : MountSeen) (request : Request) (outcome : Result Answer Refusal → Outcome)
    (answer : Result Answer Refusal) (now : List (Option OpenSeen)) → IsAsked past old mid request answer → now ≡ (outcome answer).files
    → IsStep past old (record mid { files = now }) (Asks request outcome) (outcome answer).reply
asked-step past old mid request outcome answer now asked is = record {
  after = past_after answer request past;
  mounted = record { lives = asked.mounted.lives; scene = asked.mounted.scene };
  terms = asked.terms;
  does = (
    answer,
    asked.answered,
    refl,
    ap (λ (f : List (Option OpenSeen)). record { past = past_after answer request past; files = f; parked = mid.parked; errors = mid.errors; counted = mid.counted }) is
        ∙ ap (λ (p : List Parked). record { past = past_after answer request past; files = (outcome answer).files; parked = p; errors = mid.errors; counted = mid.counted }) asked.parked
        ∙ ap (λ (e : List ErrorSeen). record { past = past_after answer request past; files = (outcome answer).files; parked = old.parked; errors = e; counted = mid.counted }) asked.errors
        ∙ ap (λ (c : List Counted). record { past = past_after answer request past; files = (outcome answer).files; parked = old.parked; errors = old.errors; counted = c }) asked.counted,
  );
}

-- a command is asked that is noted where it is refused
pub noted-step : (past : List Request) (old mid : MountSeen) (request : Request) (outcome : Result Answer Refusal → Outcome)
    (takes : Bool) (noting : Result Answer Refusal → Noting) (answer : Result Answer Refusal) (now : List (Option OpenSeen))
    → IsAskedNoting past old mid request takes noting answer → now ≡ (outcome answer).files
    → IsStep past old (record mid { files = now }) (AsksNoting request takes outcome noting) (outcome answer).reply
noted-step past old mid request outcome takes noting answer now asked is = record {
  after = past_after answer request past;
  mounted = record { lives = asked.mounted.lives; scene = asked.mounted.scene };
  terms = asked.terms;
  does = (
    answer,
    asked.answered,
    refl,
    ap (λ (f : List (Option OpenSeen)). record { past = past_after answer request past; files = f; parked = mid.parked; errors = mid.errors; counted = mid.counted }) is
        ∙ ap (λ (p : List Parked). record { past = past_after answer request past; files = (outcome answer).files; parked = p; errors = mid.errors; counted = mid.counted }) asked.parked
        ∙ ap (λ (e : List ErrorSeen). record { past = past_after answer request past; files = (outcome answer).files; parked = old.parked; errors = e; counted = mid.counted }) asked.errors
        ∙ ap (λ (c : List Counted). record { past = past_after answer request past; files = (outcome answer).files; parked = old.parked; errors = errors_after (noting answer) old.errors; counted = c }) asked.counted,
  );
}

-- this becomes of the errors
pub tells-step : (past : List Request) (old : MountSeen) (noting : Noting) (takes : Bool) (reply : Reply) (files now : List (Option OpenSeen))
    (errors : List ErrorSeen) → HasLedTo past old → now ≡ files → errors ≡ errors_after noting old.errors
    → IsStep past old (record old { files = now; errors = errors }) (Tells noting takes (told reply files)) (Some reply)
tells-step past old noting takes reply files now errors mounted is tells = record {
  after = past;
  mounted = record { lives = mounted.lives; scene = mounted.scene };
  terms = refl;
  does = inl (
    refl,
    ap (λ (f : List (Option OpenSeen)). record { past = past; files = f; parked = old.parked; errors = errors; counted = old.counted }) is
        ∙ ap (λ (e : List ErrorSeen). record { past = past; files = files; parked = old.parked; errors = e; counted = old.counted }) tells,
  );
}

-- lines were done one after another as far as none was refused
pub lines-step : (past : List Request) (old mid : MountSeen) (lines : List LineAsked) (outcome : Ran → Outcome) (noting : Ran → Noting) (ran : Ran)
    (now : List (Option OpenSeen)) (errors : List ErrorSeen) (reply : Reply) → HasLedTo ran.past mid → terms_of mid ≡ terms_of old
    → mid.parked ≡ old.parked → mid.counted ≡ old.counted → IsRun (terms_of old) past 0 lines ran
    → (outcome ran).reply ≡ Some reply → now ≡ (outcome ran).files → errors ≡ errors_after (noting ran) old.errors
    → IsStep past old (record mid { files = now; errors = errors }) (AsksLines lines outcome noting) (Some reply)
lines-step past old mid lines outcome noting ran now errors reply mounted terms parked counted runs told is notes = record {
  after = ran.past;
  mounted = record { lives = mounted.lives; scene = mounted.scene };
  terms = terms;
  does = (
    ran,
    inl runs,
    sym told,
    ap (λ (f : List (Option OpenSeen)). record { past = ran.past; files = f; parked = mid.parked; errors = errors; counted = mid.counted }) is
        ∙ ap (λ (p : List Parked). record { past = ran.past; files = (outcome ran).files; parked = p; errors = errors; counted = mid.counted }) parked
        ∙ ap (λ (e : List ErrorSeen). record { past = ran.past; files = (outcome ran).files; parked = old.parked; errors = e; counted = mid.counted }) notes
        ∙ ap (λ (c : List Counted). record { past = ran.past; files = (outcome ran).files; parked = old.parked; errors = errors_after (noting ran) old.errors; counted = c }) counted,
  );
}

-- or memory is refused before the first
pub unrun-step : (past : List Request) (old : MountSeen) (lines : List LineAsked) (outcome : Ran → Outcome) (noting : Ran → Noting)
    (now : List (Option OpenSeen)) (errors : List ErrorSeen) (reply : Reply) → HasLedTo past old
    → (outcome (stopped_at past 0 [] (Refused Memory))).reply ≡ Some reply → now ≡ (outcome (stopped_at past 0 [] (Refused Memory))).files
    → errors ≡ errors_after (noting (stopped_at past 0 [] (Refused Memory))) old.errors → (BeginsDone (terms_of old) past lines → ⊥)
    → IsStep past old (record old { files = now; errors = errors }) (AsksLines lines outcome noting) (Some reply)
unrun-step past old lines outcome noting now errors reply mounted told is notes none = record {
  after = past;
  mounted = record { lives = mounted.lives; scene = mounted.scene };
  terms = refl;
  does = (
    stopped_at past 0 [] (Refused Memory),
    inr (refl, none),
    sym told,
    ap (λ (f : List (Option OpenSeen)). record { past = past; files = f; parked = old.parked; errors = errors; counted = old.counted }) is
        ∙ ap (λ (e : List ErrorSeen). record { past = past; files = (outcome (stopped_at past 0 [] (Refused Memory))).files; parked = old.parked; errors = e; counted = old.counted }) notes,
  );
}

-- so that nothing has changed
pub unread-step : (past : List Request) (old : MountSeen) (lines : List LineAsked) (outcome : Ran → Outcome) (noting : Ran → Noting) → HasLedTo past old
    → outcome (stopped_at past 0 [] (Refused Memory)) ≡ told (replies.Error ENOMEM) old.files → noting (stopped_at past 0 [] (Refused Memory)) ≡ Keeps
    → (BeginsDone (terms_of old) past lines → ⊥) → IsStep past old old (AsksLines lines outcome noting) (Some (replies.Error ENOMEM))
unread-step past old lines outcome noting mounted is keeps none =
    unrun-step past old lines outcome noting old.files old.errors (replies.Error ENOMEM) mounted (ap (λ (o : Outcome). o.reply) is)
    (ap (λ (o : Outcome). o.files) (sym is)) (ap (λ (n : Noting). errors_after n old.errors) (sym keeps)) none

-- and told
pub told-step : (past : List Request) (old new : MountSeen) (step : Step) (unique : ℕ) (bytes : List ℕ) (reply : Reply)
    → IsStep past old new step (Some reply) → bytes ≡ reply_bytes unique reply → IsTold past old new step unique bytes
told-step past old new step unique bytes reply is told = record { reply = Some reply; is = is; bytes_are = told }

-- there is no memory to wait
pub unparked-told : (past : List Request) (old : MountSeen) (read : Parked) (now : List Parked) (unique : ℕ) (bytes : List ℕ) → HasLedTo past old
    → now ≡ old.parked → bytes ≡ reply_bytes unique (replies.Error ENOMEM) → IsTold past old (record old { parked = now }) (Parks read) unique bytes
unparked-told past old read now unique bytes mounted same told = record {
  reply = Some (replies.Error ENOMEM);
  is = record {
    after = past;
    mounted = record { lives = mounted.lives; scene = mounted.scene };
    terms = refl;
    does = inr (refl, ap (λ (p : List Parked). record { past = past; files = old.files; parked = p; errors = old.errors; counted = old.counted }) same);
  };
  bytes_are = told;
}
