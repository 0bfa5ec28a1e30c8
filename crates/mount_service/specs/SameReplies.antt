-- Two services under the same terms that are asked the same give the same, byte for byte, and are the same from then on, as long as neither tells of
-- refused memory. So what a service was asked can be recorded, and asked again.
use Rattle.std.specs.Prelude.{◌≡◌, ◌≢◌, ◌⊎◌, ℕ, ◌<◌, false, List, [], ◌∷◌, ◌++◌, length, map, Ok}
use Rattle.std.specs.List.{All, concat}
use Rattle.fuse_serve.specs.Calls.{given, taken}
use Rattle.fuse_serve.specs.Endings.{EndsAs}
use Rattle.fuse_serve.specs.Exchanges.{DeviceSeen, Exchange, requests_in}
use Rattle.fuse_serve.specs.Framing as framing
use Rattle.fuse_serve.specs.declared.fault.Ended.{Ended}
use Rattle.fuse_serve.specs.declared.fault.Ended.TheVariants.{Asked}
use Rattle.fuse_wire.specs.Replies.{reply_bytes}
use Rattle.fuse_wire.specs.Requests.{IsRequest}
use Rattle.fuse_wire.specs.declared.errno.Errno.TheVariants.{ENOMEM}
use Rattle.fuse_wire.specs.declared.reply.Reply.TheVariants as replies
use Rattle.fuse_wire.specs.declared.request.Operation.TheVariants as operations
use Rattle.fuse_wire.specs.declared.request.Request.{Request}
use Rattle.mount_service.specs.TracerLaws.{NoneInterrupted}
use Rattle.mount_service.specs.TracerServices.{IsServing, has_destroy, owes_after}
use Rattle.mount_replies.specs.Mounted.{Serves}
use Rattle.mount_replies.specs.Services.{Service, Terms}

-- ---- memory that was refused

-- A reply by which memory may have been refused: ENOMEM; or, to a WRITE, that fewer bytes were done than it has. Where memory is refused at a line after
-- the first, a writer is told how many bytes the lines before it have, as it is where that line is wrong.
pub data TellsOfMemory (asked bytes : List ℕ) : Type 0 where
  OutOfMemory : (unique : ℕ) → bytes ≡ reply_bytes unique (replies.Error ENOMEM) → TellsOfMemory asked bytes
  DoneInPart : (request : Request) (handle offset lock_owner : ℕ) (written : List ℕ) (done : ℕ) → IsRequest asked request
      → request.operation ≡ operations.Write handle offset lock_owner written → done < length written
      → bytes ≡ reply_bytes request.unique (replies.Written done) → TellsOfMemory asked bytes

abbrev pub NoneTellsOfMemory : List Exchange → Type 0
NoneTellsOfMemory exchanges = All (λ (one : Exchange). TellsOfMemory one.request one.reply → ⊥) exchanges

-- ---- two services

abbrev pub asked_by : List Exchange → List (List ℕ)
asked_by exchanges = map (λ (one : Exchange). one.request) exchanges

abbrev pub replies_by : List Exchange → List (List ℕ)
replies_by exchanges = map (λ (one : Exchange). one.reply) exchanges

-- These exchanges led from a service to another. Where one has no request, something that was owed was told.
abbrev pub Leads : Terms → Service → List Exchange → Service → Type 0
Leads g before exchanges after = Serves g before (asked_by exchanges) (replies_by exchanges) after

-- They were asked the same, told what they owed at the same places, and gave the same. What became of a reply, and by which writes, is the device's.
pub record AreAlike (one other : List Exchange) : Type 0 where
  pub asked : asked_by one ≡ asked_by other
  pub replied : replies_by one ≡ replies_by other

-- Why they are alike no longer: one of them was asked no more; or each was asked next, and not the same; or a reply tells of refused memory.
abbrev pub Part : List Exchange → List Exchange → Type 0
Part [] others = Unit {0}
Part (one ∷ more) [] = Unit {0}
Part (one ∷ more) (other ∷ others) =
    ((one.request ≢ []) × (other.request ≢ []) × (one.request ≢ other.request))
    ⊎ (TellsOfMemory one.request one.reply ⊎ TellsOfMemory other.request other.reply)

-- both are one service until they part
pub record AreOneUntilTheyPart (g : Terms) (before : Service) (one other : List Exchange) (after last : Service) : Type 0 where
  pub done : List Exchange
  pub later : List Exchange
  pub are : one ≡ done ++ later
  pub also_done : List Exchange
  pub also_later : List Exchange
  pub also_are : other ≡ also_done ++ also_later
  pub alike : AreAlike done also_done
  pub now : Service
  pub led : Leads g before done now
  pub more : Leads g now later after
  pub also_more : Leads g now also_later last
  pub part : Part later also_later

abbrev pub ServicesAreOneUntilTheyPart : Type 0
ServicesAreOneUntilTheyPart =
    (g : Terms) (before : Service) (one other : List Exchange) (after last : Service) → Leads g before one after → Leads g before other last
    → AreOneUntilTheyPart g before one other after last

-- Two that were asked the same requests, told all that they owed, and told of no refused memory, gave the same and are one service. The requests alone
-- say where what is owed is told.
abbrev pub ServicesAskedTheSame : Type 0
ServicesAskedTheSame =
    (g : Terms) (before : Service) (one other : List Exchange) (after last : Service) → Leads g before one after → Leads g before other last
    → requests_in one ≡ requests_in other → owes_after g after ≡ false → owes_after g last ≡ false
    → NoneTellsOfMemory one → NoneTellsOfMemory other → AreAlike one other × (after ≡ last)

-- ---- recordings

-- A service whose reads gave these whole requests found the end or that its device is gone, and no write failed by ENOENT.
pub record HasServedAll (g : Terms) (requests : List (List ℕ)) : Type 0 where
  pub old : DeviceSeen
  pub new : DeviceSeen
  pub exchanges : List Exchange
  pub left : List ℕ
  pub after : Service
  pub serving : IsServing g old new exchanges left after
  pub gave : given serving.calls ≡ concat requests
  pub ended : Ended
  pub unasked : ended ≢ Asked
  pub ends : EndsAs (Ok ended) (has_destroy exchanges) (owes_after g after) new.remaining serving.calls exchanges left
  pub uninterrupted : NoneInterrupted serving.calls

-- Another service that was asked these, on whatever device, wrote the same bytes.
abbrev pub RecordingsReplay : Type 0
RecordingsReplay =
    (g : Terms) (requests : List (List ℕ)) (one other : HasServedAll g requests) → All framing.IsRequest requests
    → NoneTellsOfMemory one.exchanges → NoneTellsOfMemory other.exchanges
    → (taken one.serving.calls ≡ taken other.serving.calls) × (one.after ≡ other.after)
