-- What the definitions of a service mean.
use Rattle.std.specs.Prelude.{◌≡◌, ◌≢◌, ℕ, List, [], ◌∷◌, ◌++◌, map, Option, Some}
use Rattle.std.specs.List.{All, concat, flat_map}
use Rattle.std.specs.Io.KnownBytes.{Consumes, IsAtEnd}
use Rattle.fuse_serve.specs.Calls.{Call, taken, taken_by}
use Rattle.fuse_serve.specs.Deliveries.{IsDelivered}
use Rattle.fuse_serve.specs.Exchanges.{AreDelivered, AreWhole, Exchange, asked, replies_in, requests_in, writes_of}
use Rattle.fuse_serve.specs.declared.fate.Fate.TheVariants.{Written}
use Rattle.fuse_serve.specs.Framing.{IsRequest, BeginsNoRequest}

-- bytes are whole requests, one after another, and a rest that begins with none, in one way at most
abbrev pub CutOneWay : Type 0
CutOneWay = (first second : List (List ℕ)) (left rest : List ℕ) → All IsRequest first → All IsRequest second → BeginsNoRequest left → BeginsNoRequest rest
    → concat first ++ left ≡ concat second ++ rest → (first ≡ second) × (left ≡ rest)

-- if a reader has whole requests to give, and is at its end after the requests of these exchanges, then they are these requests
abbrev pub AllAreServed : Type 0
AllAreServed = (requests : List (List ℕ)) (exchanges : List Exchange) (new : Option (List ℕ)) → All IsRequest requests → AreWhole exchanges
    → Consumes (Some (concat requests)) new (asked exchanges) → IsAtEnd new
    → requests_in exchanges ≡ requests

-- if no reply was dropped or cut, what the writes took are the replies, one after another
abbrev pub AllAreWritten : Type 0
AllAreWritten = (exchanges : List Exchange) → AreDelivered exchanges → All (λ (one : Exchange). one.fate ≡ Written) exchanges
    → taken (writes_of exchanges) ≡ flat_map (λ (one : Exchange). one.reply) exchanges

-- a write took all that it was offered
abbrev pub IsWhole : Call → Type 0
IsWhole write = taken_by write.bytes write.outcome ≡ write.bytes

-- to a device whose every write takes all that it is offered, the writes are the replies that have bytes, each one write
abbrev pub OneWriteEach : Type 0
OneWriteEach = (exchanges : List Exchange) → AreDelivered exchanges → All IsWhole (writes_of exchanges)
    → map (λ (call : Call). call.bytes) (writes_of exchanges) ≡ replies_in exchanges

-- a write that takes all that it is offered is its reply's last, and all of that is written; and a reply with bytes that is written whole has one
abbrev pub WholeWritesEndReplies : Type 0
WholeWritesEndReplies = (one : Exchange) → IsDelivered one.fate one.reply one.writes
    → ((earlier : List Call) (write : Call) (later : List Call) → one.writes ≡ earlier ++ write ∷ later → IsWhole write → (later ≡ []) × (one.fate ≡ Written))
    × (one.fate ≡ Written → one.reply ≢ [] → (earlier : List Call) × (last : Call) × (one.writes ≡ earlier ++ last ∷ []) × IsWhole last)
