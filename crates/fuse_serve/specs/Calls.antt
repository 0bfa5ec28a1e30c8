-- A device's calls, and what they came to.
use Rattle.std.specs.Prelude.{◌≡◌, ℕ, ◌==◌, nat_lt, Bool, true, false, not, List, take, [], Result, Ok, Err}
use Rattle.std.specs.List.{filter, flat_map}
use Rattle.std.specs.declared.io.Error.{Error}
use Rattle.fuse_serve.specs.Causes.{cause_of}
use Rattle.fuse_serve.specs.declared.cause.Cause.{Cause}
use Rattle.fuse_serve.specs.declared.cause.Cause.TheVariants.{NoEntry, Interrupted, NoDevice, Other}
use Rattle.fuse_serve.specs.declared.outcome.Outcome.{Outcome}
use Rattle.fuse_serve.specs.declared.outcome.Outcome.TheVariants.{Read, Written}

-- a call: what a write was offered, or the whole buffer that a read left, and what the call returned
pub record Call : Type 0 where
  pub bytes : List ℕ
  pub outcome : Outcome

abbrev pub read_call : List ℕ → Result ℕ Error → Call
read_call bytes result = record { bytes = bytes; outcome = Read result }

abbrev pub write_call : List ℕ → Result ℕ Error → Call
write_call bytes result = record { bytes = bytes; outcome = Written result }

abbrev pub is_read : Outcome → Bool
is_read (Read result) = true
is_read (Written result) = false

abbrev pub result_of : Outcome → Result ℕ Error
result_of (Read result) = result
result_of (Written result) = result

-- the call failed, for this cause
abbrev pub FailedFor : Cause → Outcome → Type 0
FailedFor cause outcome = (error : Error) × (result_of outcome ≡ Err error) × (cause_of error ≡ cause)

-- ---- bytes

-- as many of the first bytes as a call returned
abbrev pub first_bytes : List ℕ → Result ℕ Error → List ℕ
first_bytes bytes (Ok count) = take count bytes
first_bytes bytes (Err error) = []

abbrev pub given_by : List ℕ → Outcome → List ℕ
given_by bytes (Read result) = first_bytes bytes result
given_by bytes (Written result) = []

abbrev pub taken_by : List ℕ → Outcome → List ℕ
taken_by bytes (Read result) = []
taken_by bytes (Written result) = first_bytes bytes result

-- the bytes that the reads gave, and that the writes took
abbrev pub given : List Call → List ℕ
given calls = flat_map (λ (call : Call). given_by call.bytes call.outcome) calls

abbrev pub taken : List Call → List ℕ
taken calls = flat_map (λ (call : Call). taken_by call.bytes call.outcome) calls

-- ---- calls

abbrev pub reads_in : List Call → List Call
reads_in calls = filter (λ (call : Call). is_read call.outcome) calls

abbrev pub writes_in : List Call → List Call
writes_in calls = filter (λ (call : Call). not (is_read call.outcome)) calls

-- a read that fails for this cause is a service's last call
abbrev pub is_final : Cause → Bool
is_final NoEntry = false
is_final Interrupted = false
is_final NoDevice = true
is_final Other = true

abbrev pub is_end : Result ℕ Error → Bool
is_end (Ok count) = count == 0
is_end (Err error) = is_final (cause_of error)

-- the call is a read that found the end or failed, but for ENOENT and EINTR
abbrev pub ends_input : Outcome → Bool
ends_input (Read result) = is_end result
ends_input (Written result) = false

abbrev pub is_signal : Cause → Bool
is_signal NoEntry = false
is_signal Interrupted = true
is_signal NoDevice = false
is_signal Other = false

abbrev pub is_step : Result ℕ Error → Bool
is_step (Ok count) = nat_lt 0 count
is_step (Err error) = is_signal (cause_of error)

-- the call is a write that took some bytes, or before which a signal came (EINTR)
abbrev pub goes_on : Outcome → Bool
goes_on (Read result) = false
goes_on (Written result) = is_step result
