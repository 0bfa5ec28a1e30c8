-- How a reply is written.
use Rattle.std.specs.Prelude.{◌≡◌, ◌≢◌, ◌<◌, ◌⊎◌, ℕ, ◌-◌, ◌^◌, true, false, List, [], ◌∷◌, ◌++◌, length, Ok, Err}
use Rattle.std.specs.List.{All}
use Rattle.std.specs.declared.io.Error.{Error}
use Rattle.fuse_serve.specs.Calls.{Call, FailedFor, goes_on, is_read, result_of, taken}
use Rattle.fuse_serve.specs.Causes.{cause_of}
use Rattle.fuse_serve.specs.declared.cause.Cause.{Cause}
use Rattle.fuse_serve.specs.declared.cause.Cause.TheVariants.{NoEntry, Interrupted, NoDevice, Other}
use Rattle.fuse_serve.specs.declared.fate.Fate.{Fate}
use Rattle.fuse_serve.specs.declared.fate.Fate.TheVariants.{Written, Dropped, Cut}
use Rattle.fuse_serve.specs.declared.outcome.Outcome.{Outcome}

-- Each write was offered what those before it had not taken, which was not nothing: the first one all of the reply, so that it is one write if the
-- device takes all that it is offered. No write is offered bytes of two replies.
abbrev pub AreOffered : List ℕ → List Call → Type 0
AreOffered reply writes = (earlier : List Call) (one : Call) (later : List Call) → writes ≡ earlier ++ one ∷ later
    → (reply ≡ taken earlier ++ one.bytes) × (one.bytes ≢ [])

-- the last of some writes; those before it took some bytes, or a signal came first
pub record LastOf (writes : List Call) : Type 0 where
  pub earlier : List Call
  pub last : Call
  pub are : writes ≡ earlier ++ last ∷ []
  pub go_on : All (λ (call : Call). goes_on call.outcome ≡ true) earlier

-- a write that failed for this cause cuts a reply of which these bytes were taken before, by so many writes with it
abbrev pub CutsFor : Cause → List ℕ → ℕ → Type 0
CutsFor NoEntry before writes = before ≢ []
CutsFor Interrupted before writes = 2 ^ 64 - 1 < writes
CutsFor NoDevice before writes = Unit {0}
CutsFor Other before writes = Unit {0}

-- a write cuts a reply: it took nothing, or failed
abbrev pub Cuts : Outcome → List ℕ → ℕ → Type 0
Cuts outcome before writes = (result_of outcome ≡ Ok 0) ⊎ ((error : Error) × (result_of outcome ≡ Err error) × CutsFor (cause_of error) before writes)

-- with this fate these are the writes of a reply
abbrev pub EndsIn : Fate → List ℕ → List Call → Type 0
EndsIn Written reply writes = (taken writes ≡ reply) × All (λ (call : Call). goes_on call.outcome ≡ true) writes
EndsIn Dropped reply writes = (end : LastOf writes) × (taken end.earlier ≡ []) × FailedFor NoEntry end.last.outcome
EndsIn Cut reply writes = (end : LastOf writes) × Cuts end.last.outcome (taken end.earlier) (length writes)

-- these are the writes of a reply, and this became of it
pub record IsDelivered (fate : Fate) (reply : List ℕ) (writes : List Call) : Type 0 where
  pub writes_only : All (λ (call : Call). is_read call.outcome ≡ false) writes
  pub offered : AreOffered reply writes
  pub ends : EndsIn fate reply writes
