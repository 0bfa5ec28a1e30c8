-- What a turn of a service comes to.
use Rattle.std.specs.Prelude.{◌≡◌, ◌≢◌, ℕ, ◌-◌, true, false, List, [], ◌∷◌, ◌++◌, length, Option, Some, None, Result, Ok, Err}
use Rattle.std.specs.Io.KnownBytes.{Appends, Consumes}
use Rattle.std.specs.declared.io.Error.{Error}
use Rattle.fuse_serve.specs.Calls.{Call, FailedFor, ends_input, first_bytes, read_call, taken}
use Rattle.fuse_serve.specs.Deliveries.{IsDelivered}
use Rattle.fuse_serve.specs.Endings.{HasEnded}
use Rattle.fuse_serve.specs.declared.cause.Cause.TheVariants.{Other}
use Rattle.fuse_serve.specs.declared.fate.Fate.{Fate}
use Rattle.fuse_serve.specs.declared.fault.Ended.{Ended}
use Rattle.fuse_serve.specs.declared.fault.Fault.{Fault}
use Rattle.fuse_serve.specs.declared.fault.Fault.TheVariants.{Memory, Unframed, Read, Write}
use Rattle.fuse_serve.specs.declared.framing.TheConstants.{MOST_BYTES}
use Rattle.fuse_serve.specs.declared.outcome.Outcome.TheVariants as outcomes

-- a read was offered all the room after the bytes that waited, and what it gave waits after them
pub record HasRead (result : Result ℕ Error) (waited waits : List ℕ) (calls calls' : List Call) (remaining remaining' : Option (List ℕ)) : Type 0 where
  pub buffer : List ℕ
  pub room : length buffer ≡ MOST_BYTES - length waited
  pub made : calls' ≡ calls ++ read_call buffer result ∷ []
  pub came : waits ≡ waited ++ first_bytes buffer result
  pub consumed : Consumes remaining remaining' (first_bytes buffer result)

-- what a read comes to, by what the call returned and the bytes that wait
abbrev pub Received : Result (Option Ended) Fault → Result ℕ Error → List ℕ → Option (List ℕ) → Type 0
Received (Ok None) result waits remaining = ends_input (outcomes.Read result) ≡ false
Received (Ok (Some ended)) result waits remaining =
    (waits ≡ []) × (ends_input (outcomes.Read result) ≡ true) × HasEnded ended (outcomes.Read result) remaining
Received (Err Memory) result waits remaining = ⊥
Received (Err Unframed) result waits remaining =
    (waits ≢ []) × (ends_input (outcomes.Read result) ≡ true) × (ended : Ended) × HasEnded ended (outcomes.Read result) remaining
Received (Err Read) result waits remaining = (ends_input (outcomes.Read result) ≡ true) × FailedFor Other (outcomes.Read result)
Received (Err Write) result waits remaining = ⊥

-- a message was written, by these calls
pub record HasDelivered (fate : Fate) (reply : List ℕ) (calls calls' : List Call) (contents contents' : Option (List ℕ)) : Type 0 where
  pub writes : List Call
  pub made : calls' ≡ calls ++ writes
  pub delivered : IsDelivered fate reply writes
  pub written : Appends contents contents' (taken writes)

-- the server answered this request, or told what it owed if it is empty, and this became of the reply
pub record HasAnswered {S : Type 0} (answers : S → List ℕ → S → List ℕ → Type 0) (before after : S) (request : List ℕ) (fate : Fate) (calls calls' : List Call) (contents contents' : Option (List ℕ)) : Type 0 where
  pub reply : List ℕ
  pub answered : answers before request after reply
  pub delivered : HasDelivered fate reply calls calls' contents contents'
