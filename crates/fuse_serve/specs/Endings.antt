-- How a service ends: what each ending says of its calls, the exchanges and the bytes that are left.
use Rattle.std.specs.Prelude.{◌≡◌, ◌≢◌, ◌≤◌, ◌⊎◌, ℕ, ◌+◌, ◌-◌, ◌^◌, Bool, true, false, List, [], ◌∷◌, ◌++◌, length, Option, Result, Ok, Err}
use Rattle.std.specs.Io.KnownBytes.{IsAtEnd}
use Rattle.std.specs.List.{All}
use Rattle.fuse_serve.specs.Calls.{Call, FailedFor, ends_input, reads_in}
use Rattle.fuse_serve.specs.Exchanges.{Exchange, IsWaiting}
use Rattle.fuse_serve.specs.Framing.{IsUnframed, BeginsNoRequest}
use Rattle.fuse_serve.specs.declared.cause.Cause.TheVariants.{NoDevice, Other}
use Rattle.fuse_serve.specs.declared.fate.Fate.TheVariants.{Cut}
use Rattle.fuse_serve.specs.declared.fault.Ended.{Ended}
use Rattle.fuse_serve.specs.declared.fault.Ended.TheVariants.{AtEnd, Gone, Asked}
use Rattle.fuse_serve.specs.declared.fault.Fault.{Fault}
use Rattle.fuse_serve.specs.declared.fault.Fault.TheVariants.{Memory, Unframed, Read, Write}
use Rattle.fuse_serve.specs.declared.framing.TheConstants.{MOST_BYTES}
use Rattle.fuse_serve.specs.declared.outcome.Outcome.{Outcome}
use Rattle.fuse_serve.specs.declared.outcome.Outcome.TheVariants as outcomes

-- ---- reads

-- a read found the end of the input, or that the device is gone
abbrev pub HasEnded : Ended → Outcome → Option (List ℕ) → Type 0
HasEnded AtEnd outcome remaining = (outcome ≡ outcomes.Read (Ok 0)) × IsAtEnd remaining
HasEnded Gone outcome remaining = FailedFor NoDevice outcome
HasEnded Asked outcome remaining = ⊥

-- no read found the end or failed, but by ENOENT and EINTR
abbrev pub ReadsOn : List Call → Type 0
ReadsOn calls = All (λ (call : Call). ends_input call.outcome ≡ false) calls

-- the last call, and no read before it, found the end or failed; it was offered all the room after the bytes that were left
pub record StopsReading (calls : List Call) (left : List ℕ) : Type 0 where
  pub earlier : List Call
  pub last : Call
  pub are : calls ≡ earlier ++ last ∷ []
  pub on : ReadsOn earlier
  pub ends : ends_input last.outcome ≡ true
  pub room : length last.bytes ≡ MOST_BYTES - length left

-- ---- writes

-- no write took nothing or failed, but by EINTR, and by ENOENT those whose replies were dropped
abbrev pub WritesOn : List Exchange → Type 0
WritesOn exchanges = All (λ (one : Exchange). one.fate ≢ Cut) exchanges

-- the last reply was cut, and no other; its writes are the last calls
pub record StopsWriting (calls : List Call) (exchanges : List Exchange) : Type 0 where
  pub before : List Exchange
  pub last : Exchange
  pub are : exchanges ≡ before ++ last ∷ []
  pub on : WritesOn before
  pub cut : last.fate ≡ Cut
  pub earlier : List Call
  pub end : calls ≡ earlier ++ last.writes

-- ---- endings

-- the input ended, or bytes came that can't be a request
abbrev pub IsMisframed : Option (List ℕ) → List Call → List ℕ → Type 0
IsMisframed remaining calls left =
    (IsUnframed left × ReadsOn calls)
    ⊎ ((left ≢ []) × BeginsNoRequest left × (stop : StopsReading calls left) × (ended : Ended) × HasEnded ended stop.last.outcome remaining)

-- what a fault says
abbrev pub StopsFor : Fault → Bool → Bool → Option (List ℕ) → List Call → List Exchange → List ℕ → Type 0
StopsFor Memory ends owes remaining calls exchanges left = (calls ≡ []) × (exchanges ≡ [])
StopsFor Unframed ends owes remaining calls exchanges left = IsWaiting ends owes × WritesOn exchanges × IsMisframed remaining calls left
StopsFor Read ends owes remaining calls exchanges left =
    WritesOn exchanges
    × ((IsWaiting ends owes × BeginsNoRequest left × (stop : StopsReading calls left) × FailedFor Other stop.last.outcome)
    ⊎ ((2 ^ 64 - 1 ≤ length (reads_in calls) + length exchanges) × ReadsOn calls))
StopsFor Write ends owes remaining calls exchanges left = StopsWriting calls exchanges × ReadsOn calls

-- what an ending says
abbrev pub EndsAs : Result Ended Fault → Bool → Bool → Option (List ℕ) → List Call → List Exchange → List ℕ → Type 0
EndsAs (Ok AtEnd) ends owes remaining calls exchanges left =
    IsWaiting ends owes × (left ≡ []) × WritesOn exchanges × (stop : StopsReading calls left) × HasEnded AtEnd stop.last.outcome remaining
EndsAs (Ok Gone) ends owes remaining calls exchanges left =
    IsWaiting ends owes × (left ≡ []) × WritesOn exchanges × (stop : StopsReading calls left) × HasEnded Gone stop.last.outcome remaining
EndsAs (Ok Asked) ends owes remaining calls exchanges left = (ends ≡ true) × WritesOn exchanges × ReadsOn calls
EndsAs (Err fault) ends owes remaining calls exchanges left = StopsFor fault ends owes remaining calls exchanges left
