-- What a service of a mounted tracer comes to: its calls of the device, the requests that were read, each with its reply as mount_replies defines it,
-- and what was told in between, as the replies of reads that waited.
use Rattle.std.specs.Prelude.{◌≡◌, ℕ, ◌==◌, ◌&&◌, Bool, true, false, is_some, List, [], ◌∷◌, ◌++◌, length, drop, map, Result, Ok, Err}
use Rattle.std.specs.Int.{w32, from_le_bytes}
use Rattle.std.specs.Io.KnownBytes.{Appends, Consumes}
use Rattle.std.specs.List.{list_any}
use Rattle.fuse_serve.specs.Calls.{Call, given, is_read, taken, writes_in}
use Rattle.fuse_serve.specs.Endings.{EndsAs}
use Rattle.fuse_serve.specs.Exchanges.{AreDelivered, AreWhole, DeviceSeen, Exchange, asked, writes_of}
use Rattle.fuse_serve.specs.Framing.{BeginsNoRequest}
use Rattle.fuse_serve.specs.declared.fault.Ended.{Ended}
use Rattle.fuse_serve.specs.declared.fault.Fault.{Fault}
use Rattle.fuse_serve.specs.declared.fault.Fault.TheVariants as faults
use Rattle.mount_service.specs.declared.failure.Failure.{Failure}
use Rattle.mount_service.specs.declared.failure.Failure.TheVariants.{BadValue, Stopped}
use Rattle.trace_command.specs.declared.refusal.Refusal.{Refusal}
use Rattle.trace_command.specs.declared.refusal.Refusal.TheVariants as refusals
use Rattle.mount_replies.specs.Mounted.{Serves}
use Rattle.mount_replies.specs.Owed.{owed}
use Rattle.mount_replies.specs.PastLaws.{just_mounted}
use Rattle.mount_replies.specs.Services.{Service, Terms}

-- what a tracer that can't be made is told as
abbrev pub failure_of : Refusal → Failure
failure_of refusals.Memory = Stopped faults.Memory
failure_of _ = BadValue

-- the number of the first four bytes, the low one first
abbrev pub number_of : List ℕ → ℕ
number_of bytes = from_le_bytes w32 bytes

-- DESTROY: a header alone, which is 40 bytes, whose second number, the opcode, is 38
abbrev pub is_destroy : List ℕ → Bool
is_destroy request = length request == 40 && number_of (drop 4 request) == 38

-- nothing follows a DESTROY
abbrev pub StopsAtDestroy : List Exchange → Type 0
StopsAtDestroy [] = Unit {0}
StopsAtDestroy (one ∷ more) = (is_destroy one.request ≡ true → more ≡ []) × StopsAtDestroy more

abbrev pub has_destroy : List Exchange → Bool
has_destroy exchanges = list_any (λ (one : Exchange). is_destroy one.request) exchanges

-- something is owed
abbrev pub owes_after : Terms → Service → Bool
owes_after g after = is_some (owed g after)

-- the tracer, just mounted, served the exchanges so: where one has no request, what was owed was told, all of it before the next request was answered
abbrev pub AreServed : Terms → List Exchange → Service → Type 0
AreServed g exchanges after = Serves g just_mounted (map (λ (one : Exchange). one.request) exchanges) (map (λ (one : Exchange). one.reply) exchanges) after

-- After these calls a read comes: all that was read before was served, but for bytes that begin no whole request, and all replies and all that was
-- owed were written; nothing is owed then, and no DESTROY came. From this very state what came later was served, and this led to the service's last state,
-- but that the requests of its past may be others that led to the same tracer; it owes something exactly if the service at its end does.
pub record IsReadNext (g : Terms) (after : Service) (calls : List Call) (exchanges : List Exchange) : Type 0 where
  pub done : List Exchange
  pub later : List Exchange
  pub are : exchanges ≡ done ++ later
  pub left : List ℕ
  pub gave : given calls ≡ asked done ++ left
  pub none_left : BeginsNoRequest left
  pub took : writes_in calls ≡ writes_of done
  pub now : Service
  pub served : AreServed g done now
  pub last : Service
  pub more : Serves g now (map (λ (one : Exchange). one.request) later) (map (λ (one : Exchange). one.reply) later) last
  pub last_is : last ≡ record after { past = last.past }
  pub last_owes : owes_after g last ≡ owes_after g after
  pub nothing_owed : owes_after g now ≡ false
  pub mounted : has_destroy done ≡ false

-- The device's calls were these: its reads gave the requests of the exchanges that have one, one after another, each whole, and then some bytes that are
-- left; the tracer served the exchanges; and its writes were those of their replies, one after another. Each read came when all before it was served and
-- written.
pub record IsServing (g : Terms) (old new : DeviceSeen) (exchanges : List Exchange) (left : List ℕ) (after : Service) : Type 0 where
  pub calls : List Call
  pub made : new.calls ≡ old.calls ++ calls
  pub gave : given calls ≡ asked exchanges ++ left
  pub whole : AreWhole exchanges
  pub served : AreServed g exchanges after
  pub stops : StopsAtDestroy exchanges
  pub took : writes_in calls ≡ writes_of exchanges
  pub delivered : AreDelivered exchanges
  pub in_order : (earlier : List Call) (one : Call) (later : List Call) → calls ≡ earlier ++ one ∷ later → is_read one.outcome ≡ true → IsReadNext g after earlier exchanges
  pub read : Consumes old.remaining new.remaining (given calls)
  pub written : Appends old.contents new.contents (taken calls)

-- there are such exchanges, and the service ended as it is said
abbrev pub IsServed : Terms → Result Ended Fault → DeviceSeen → DeviceSeen → Type 0
IsServed g result old new =
    (exchanges : List Exchange) × (left : List ℕ) × (after : Service) × (serving : IsServing g old new exchanges left after)
    × EndsAs result (has_destroy exchanges) (owes_after g after) new.remaining serving.calls exchanges left

-- likewise, if it began
abbrev pub HasBeenServed : Terms → Result Ended Failure → DeviceSeen → DeviceSeen → Type 0
HasBeenServed g (Ok ended) old new = IsServed g (Ok ended) old new
HasBeenServed g (Err BadValue) old new = Unit {0}
HasBeenServed g (Err (Stopped fault)) old new = IsServed g (Err fault) old new
