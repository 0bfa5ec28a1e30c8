-- A single line that was asked: what its item gives.
use Rattle.std.proofs.Common.{◌≡◌, ℕ, Bool, List, [], ◌∷◌, ◌++◌, Option, Some, None, Result, Ok, Err, IfOk, IsErrOf, OnOk, refl, ap, sym, subst}
use Rattle.trace_command.specs.declared.command.Config.{Config}
use Rattle.trace_command.specs.declared.command.Reply.TheVariants as replies
use Rattle.script_reader.specs.Items.{Single}
use Rattle.script_reader.specs.declared.stop.Stop.{Stop}
use Rattle.script_reader.specs.declared.stop.Stop.TheVariants as stops
use Rattle.trace_script.specs.declared.outcome.Outcome.{Outcome}
use Rattle.trace_script.specs.declared.outcome.Outcome.TheVariants as outcomes
use Rattle.trace_session.specs.Devices.{AppendsFront, Passes}
use Rattle.trace_session.specs.private.LineRuns.{IsLineGiven, IsLineRun, Outlet}
use Rattle.trace_session.specs.private.StepFronts.{PassesItem, AppendsItem}
use Rattle.trace_session.specs.Heard.{Heard, Hears, heard_of}
use Rattle.trace_session.specs.Parts.{MayGive, given_by}
use Rattle.trace_session.specs.Sessions.{Progress, Turn, turn_of, text_of, status_of}
use Rattle.trace_session.specs.declared.status.Status.{Status}
use Rattle.trace_session.specs.declared.status.Status.TheVariants as statuses
use Rattle.trace_session.proofs.DeviceLemmas.{Passes_nothing}
use Rattle.trace_session.proofs.Stepping.{done_unheard, flushed_as, untold_flushed}

-- a session that stops for memory alone
pub only_memory : (stop : Stop) → (stop ≡ stops.Stopped → ⊥) → (stop ≡ stops.Device → ⊥) → stop ≡ stops.Memory
only_memory stops.Memory not_stopped not_device = refl
only_memory stops.Stopped not_stopped not_device = absurd (not_stopped refl)
only_memory stops.Device not_stopped not_device = absurd (not_device refl)

-- a result has one error
stop_is : (result : Result Status Stop) (stop other : Stop) → result ≡ Err stop → IsErrOf result other → stop ≡ other
stop_is result stop other is also = let failed : result ≡ Err other = also in cc

-- what was done has no error
no_error : {A : Type 0} (status : Status) (stop : Stop) (result : Result Status Stop) → result ≡ Ok status → IsErrOf result stop → A
no_error status stop result done is = let failed : result ≡ Err stop = is in absurd (cc (done, failed))

-- a sink that says nothing of what it heard
untold_heard : (heard : Option (List Heard)) (more : List Heard) → heard ≡ None → Hears heard heard more
untold_heard None more none = tt
untold_heard (Some heard) more none = absurd cc

module _ (wants : Bool) (number : ℕ) (line : List ℕ) (seated : Config → Type 0) (before after : Progress) where
  -- the session stops at the line
  pub line_stops : (one : Outlet) (stop : Stop) → stop ≡ stops.Memory → IsLineRun wants number line seated before after one one (Err stop)
  line_stops one stop is = record {
    done = tt;
    failures = tt;
    memory = λ _. Passes_nothing one.bytes one.waits;
    unfailed = λ _. refl;
    stopped = λ other. absurd (cc (is, stop_is (Err stop) stop stops.Stopped refl other));
    risen = λ other. absurd (cc (is, stop_is (Err stop) stop stops.Device refl other));
    device = λ other. absurd (cc (is, stop_is (Err stop) stop stops.Device refl other));
    flushed = tt;
    unheard = refl;
    heard = λ _ _. tt;
  }

  -- a command that was done without a reply, of which nobody hears
  pub line_silent : (one : Outlet) → one.heard ≡ None
      → ((g : Config) → seated g → turn_of g before line ≡ record { outcome = Some (outcomes.Replied replies.Done); progress = after })
      → IsLineRun wants number line seated before after one one (Ok statuses.Done)
  line_silent one none turn = record {
    done = λ g seat. done_unheard g number line before after one.bytes one.waits (turn g seat);
    failures = refl;
    memory = no_error statuses.Done stops.Memory (Ok statuses.Done) refl;
    unfailed = no_error statuses.Done stops.Memory (Ok statuses.Done) refl;
    stopped = no_error statuses.Done stops.Stopped (Ok statuses.Done) refl;
    risen = no_error statuses.Done stops.Device (Ok statuses.Done) refl;
    device = no_error statuses.Done stops.Device (Ok statuses.Done) refl;
    flushed = untold_flushed wants one.heard statuses.Done none;
    unheard = tt;
    heard = λ _ _. untold_heard one.heard _ none;
  }

  module _ (outcome : Option Outcome) (turn : (g : Config) → seated g → turn_of g before line ≡ record { outcome = outcome; progress = after }) where
    may : (g : Config) → seated g → MayGive g (Single number line) before after (given_by number outcome)
    may g seat = (sym (ap (λ (one : Turn). given_by number one.outcome) (turn g seat)), sym (ap (λ (one : Turn). one.progress) (turn g seat)))

    line_done : (result : Result Status Stop) (old new : Option (List ℕ)) (waited waits : List ℕ) → IfOk result (λ status. status ≡ status_of (outcome ∷ []))
        → OnOk result (Passes old waited new waits (text_of number outcome))
        → IfOk result (λ status. (g : Config) → seated g → PassesItem g (Single number line) before after status old waited new waits)
    line_done (Ok status) old new waited waits told written = λ g seat. (given_by number outcome, may g seat, told, written)
    line_done (Err stop) old new waited waits told written = tt

    line_heard : (result : Result Status Stop) (old new : Option (List Heard)) (held : Option (List ℕ)) → OnOk result (Hears old new (heard_of number line outcome held ∷ []))
        → (g : Config) → seated g → OnOk result (Hears old new (heard_of number line (turn_of g before line).outcome held ∷ []))
    line_heard result old new held heard =
        λ g seat. subst (λ (told : Option Outcome). OnOk result (Hears old new (heard_of number line told held ∷ []))) (sym (ap (λ (one : Turn). one.outcome) (turn g seat))) heard

    -- its outcome was given
    pub line_run : (old new : Outlet) (result : Result Status Stop) → IsLineGiven wants number line outcome old new result
        → IsLineRun wants number line seated before after old new result
    line_run old new result given = record {
      done = line_done result old.bytes new.bytes old.waits new.waits given.status given.written;
      failures = given.failures;
      memory = given.memory;
      unfailed = given.unfailed;
      stopped = given.stopped;
      risen = λ is. (given.device is).0;
      device = λ is g seat. (given_by number outcome, may g seat, (given.device is).1);
      flushed = flushed_as wants _ _ result (status_of (outcome ∷ [])) given.status given.all;
      unheard = given.unheard;
      heard = line_heard result old.heard new.heard new.bytes given.heard;
    }
