-- Requests, their replies, and how these were written. A message that no request waits for at that moment, as the reply to an earlier one, is owed: it
-- is an exchange whose request is empty.
use Rattle.std.specs.Prelude.{◌≡◌, ◌⊎◌, ℕ, Bool, true, false, List, [], ◌∷◌, ◌++◌, Option}
use Rattle.std.specs.List.{All, flat_map}
use Rattle.std.specs.Io.KnownBytes.{Appends, Consumes}
use Rattle.fuse_serve.specs.Calls.{Call, given, is_read, taken, writes_in}
use Rattle.fuse_serve.specs.Deliveries.{IsDelivered}
use Rattle.fuse_serve.specs.Framing.{IsRequest, BeginsNoRequest}
use Rattle.fuse_serve.specs.declared.fate.Fate.{Fate}

-- a request, none of what was owed; its reply, what became of that, and its writes
pub record Exchange : Type 0 where
  pub request : List ℕ
  pub reply : List ℕ
  pub fate : Fate
  pub writes : List Call

-- the requests, one after another, and the writes of their replies
abbrev pub asked : List Exchange → List ℕ
asked exchanges = flat_map (λ (one : Exchange). one.request) exchanges

abbrev pub writes_of : List Exchange → List Call
writes_of exchanges = flat_map (λ (one : Exchange). one.writes) exchanges

-- each exchange's writes are those of its reply
abbrev pub AreDelivered : List Exchange → Type 0
AreDelivered exchanges = All (λ (one : Exchange). IsDelivered one.fate one.reply one.writes) exchanges

-- what comes next for a server that owes something, or doesn't: it tells what it owes, without a request, or else answers one
abbrev pub IsNext : Bool → List ℕ → Type 0
IsNext true request = request ≡ []
IsNext false request = IsRequest request

-- the server told or answered these, one after another, each once: what it owed before the next request, and nothing once it wanted to end
abbrev pub AnswersAll : {S : Type 0} → (S → List ℕ → S → List ℕ → Type 0) → (S → Bool) → (S → Bool) → S → List Exchange → S → Type 0
AnswersAll answers ends owes before [] after = after ≡ before
AnswersAll {S} answers ends owes before (one ∷ more) after =
    (ends before ≡ false) × IsNext (owes before) one.request
    × (next : S) × answers before one.request next one.reply × AnswersAll answers ends owes next more after

-- the server neither wants to end nor owes anything: the service waits for its next request
abbrev pub IsWaiting : Bool → Bool → Type 0
IsWaiting ends owes = (ends ≡ false) × (owes ≡ false)

-- After these calls a read comes: all that was read before was answered, but for bytes that begin no whole request, and all that was answered was
-- written; the server owes nothing then, and does not want to end. From this very state it answered what came later.
pub record IsReadNext {S : Type 0} (answers : S → List ℕ → S → List ℕ → Type 0) (ends owes : S → Bool) (before after : S) (calls : List Call) (exchanges : List Exchange) : Type 0 where
  pub done : List Exchange
  pub later : List Exchange
  pub are : exchanges ≡ done ++ later
  pub left : List ℕ
  pub gave : given calls ≡ asked done ++ left
  pub none_left : BeginsNoRequest left
  pub took : writes_in calls ≡ writes_of done
  pub now : S
  pub answered : AnswersAll answers ends owes before done now
  pub more : AnswersAll answers ends owes now later after
  pub waiting : IsWaiting (ends now) (owes now)

-- these bytes, but for none, and more
abbrev pub with_bytes : List ℕ → List (List ℕ) → List (List ℕ)
with_bytes [] more = more
with_bytes (byte ∷ bytes) more = (byte ∷ bytes) ∷ more

-- the requests of the exchanges that have one
abbrev pub requests_in : List Exchange → List (List ℕ)
requests_in [] = []
requests_in (one ∷ more) = with_bytes one.request (requests_in more)

-- the replies that have bytes
abbrev pub replies_in : List Exchange → List (List ℕ)
replies_in [] = []
replies_in (one ∷ more) = with_bytes one.reply (replies_in more)

-- each is a whole request, or nothing
abbrev pub AreWhole : List Exchange → Type 0
AreWhole exchanges = All (λ (one : Exchange). (one.request ≡ []) ⊎ IsRequest one.request) exchanges

-- what is seen of a device: its calls so far, and the bytes that its reads will give and that it holds of what was written, if known
pub record DeviceSeen : Type 0 where
  pub calls : List Call
  pub remaining : Option (List ℕ)
  pub contents : Option (List ℕ)

abbrev pub device_seen : List Call → Option (List ℕ) → Option (List ℕ) → DeviceSeen
device_seen calls remaining contents = record { calls = calls; remaining = remaining; contents = contents }

-- The device's calls were these: its reads gave the requests, one after another, and then some bytes that are left; the server answered them, and its
-- writes were those of their replies, one after another. Each read came when all before it was answered and written, and nothing was owed.
pub record HasServed {S : Type 0} (answers : S → List ℕ → S → List ℕ → Type 0) (ends owes : S → Bool) (before after : S) (old new : DeviceSeen) (calls : List Call) (exchanges : List Exchange) (left : List ℕ) :
    Type 0 where
  pub made : new.calls ≡ old.calls ++ calls
  pub gave : given calls ≡ asked exchanges ++ left
  pub answered : AnswersAll answers ends owes before exchanges after
  pub took : writes_in calls ≡ writes_of exchanges
  pub delivered : AreDelivered exchanges
  pub in_order : (earlier : List Call) (one : Call) (later : List Call) → calls ≡ earlier ++ one ∷ later → is_read one.outcome ≡ true
      → IsReadNext answers ends owes before after earlier exchanges
  pub read : Consumes old.remaining new.remaining (given calls)
  pub written : Appends old.contents new.contents (taken calls)
