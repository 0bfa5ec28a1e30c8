-- What a single line comes to, in one word: once its outcome is known, and from its command on.
use Rattle.std.specs.Prelude.{◌≡◌, ℕ, Bool, List, [], ◌∷◌, ◌++◌, Option, Result, IfOk, IsSome, OnOk, OnErr, IsErrOf}
use Rattle.ticket_lock.specs.declared.views.View.{View}
use Rattle.trace_command.specs.declared.command.Config.{Config}
use Rattle.trace_command.specs.declared.command.Entry.{Entry}
use Rattle.script_reader.specs.Items.{Single}
use Rattle.script_reader.specs.Sources.{HasRisen}
use Rattle.script_reader.specs.declared.stop.Stop.{Stop}
use Rattle.script_reader.specs.declared.stop.Stop.TheVariants.{Memory, Stopped, Device}
use Rattle.trace_script.specs.declared.outcome.Outcome.{Outcome}
use Rattle.trace_session.specs.Devices.{AppendsFront, Passes}
use Rattle.trace_session.specs.Heard.{Heard, Hears, IsWrittenFirst, heard_of}
use Rattle.trace_session.specs.Passes.{IsSessionPass, progress_of}
use Rattle.trace_session.specs.Sessions.{Progress, turn_of, text_of, status_of}
use Rattle.trace_session.specs.declared.status.Status.{Status}
use Rattle.trace_session.specs.private.StepFronts.{PassesItem, AppendsItem}

-- a sink: its bytes, how many of its calls failed, and what it heard; and what waits to be written to it
pub record Outlet : Type 0 where
  pub bytes : Option (List ℕ)
  pub failures : ℕ
  pub heard : Option (List Heard)
  pub waits : List ℕ

abbrev pub outlet : Option (List ℕ) → ℕ → Option (List Heard) → List ℕ → Outlet
outlet bytes failures heard waits = record { bytes = bytes; failures = failures; heard = heard; waits = waits }

-- the output of the line of this number was written or waits, and its outcome was told
pub record IsLineGiven (wants : Bool) (number : ℕ) (line : List ℕ) (outcome : Option Outcome) (old new : Outlet) (result : Result Status Stop) : Type 0 where
  pub status : IfOk result (λ status. status ≡ status_of (outcome ∷ []))
  pub written : OnOk result (Passes old.bytes old.waits new.bytes new.waits (text_of number outcome))
  pub failures : OnOk result (new.failures ≡ old.failures)
  pub memory : IsErrOf result Memory → Passes old.bytes old.waits new.bytes new.waits []
  pub unfailed : IsErrOf result Memory → new.failures ≡ old.failures
  pub stopped : IsErrOf result Stopped → ⊥
  pub device : IsErrOf result Device → HasRisen old.failures new.failures × AppendsFront old.bytes new.bytes (old.waits ++ text_of number outcome)
  pub heard : OnOk result (Hears old.heard new.heard (heard_of number line outcome new.bytes ∷ []))
  pub all : OnOk result (IsSome old.heard → IsWrittenFirst wants (status_of (outcome ∷ [])) → new.waits ≡ [])
  pub unheard : OnErr result (new.heard ≡ old.heard)

-- The line of this number ran, its output was written or waits, and its outcome was told. `seated` is of the configurations of which the pass before it
-- is a session's.
pub record IsLineRun (wants : Bool) (number : ℕ) (line : List ℕ) (seated : Config → Type 0) (before after : Progress) (old new : Outlet)
    (result : Result Status Stop) : Type 0 where
  pub done : IfOk result (λ status. (g : Config) → seated g → PassesItem g (Single number line) before after status old.bytes old.waits new.bytes new.waits)
  pub failures : OnOk result (new.failures ≡ old.failures)
  pub memory : IsErrOf result Memory → Passes old.bytes old.waits new.bytes new.waits []
  pub unfailed : IsErrOf result Memory → new.failures ≡ old.failures
  pub stopped : IsErrOf result Stopped → ⊥
  pub risen : IsErrOf result Device → HasRisen old.failures new.failures
  pub device : IsErrOf result Device → (g : Config) → seated g → AppendsItem g (Single number line) before after old.bytes old.waits new.bytes
  pub flushed : IfOk result (λ status. IsSome old.heard → IsWrittenFirst wants status → new.waits ≡ [])
  pub unheard : OnErr result (new.heard ≡ old.heard)
  pub heard : (g : Config) → seated g → OnOk result (Hears old.heard new.heard (heard_of number line (turn_of g before line).outcome new.bytes ∷ []))

-- and the same with the views of the pass before it and after it, which is still a session's
abbrev pub RunsLine : Bool → ℕ → List ℕ → View Entry → View Entry → Outlet → Outlet → Result Status Stop → Type 0
RunsLine wants number line view after old new result =
    ((g : Config) → IsSessionPass g view → IsSessionPass g after)
    × IsLineRun wants number line (λ g. IsSessionPass g view) (progress_of view) (progress_of after) old new result
