-- What a service comes to, whatever the device, and with one whose bytes are known.
use Rattle.std.specs.Prelude.{◌≡◌, ◌≢◌, ℕ, List, ◌++◌, map, Some, Ok}
use Rattle.std.specs.List.{All, concat}
use Rattle.fuse_serve.specs.Calls.{Call, FailedFor, given, taken, writes_in}
use Rattle.fuse_serve.specs.Endings.{EndsAs}
use Rattle.fuse_serve.specs.Exchanges.{DeviceSeen, Exchange, requests_in}
use Rattle.fuse_serve.specs.Framing.{IsRequest}
use Rattle.fuse_serve.specs.declared.cause.Cause.TheVariants.{NoEntry}
use Rattle.fuse_serve.specs.declared.fault.Ended.{Ended}
use Rattle.fuse_serve.specs.declared.fault.Ended.TheVariants.{AtEnd, Asked}
use Rattle.mount_service.specs.TracerServices.{AreServed, IsServing, has_destroy, owes_after}
use Rattle.mount_replies.specs.Services.{Service, Terms}

-- no write failed by ENOENT
abbrev pub NoneInterrupted : List Call → Type 0
NoneInterrupted calls = All (λ (call : Call). ¬ FailedFor NoEntry call.outcome) (writes_in calls)

-- the replies and what was owed, one after another
abbrev pub told : List Exchange → List ℕ
told exchanges = concat (map (λ (one : Exchange). one.reply) exchanges)

-- If what the reads gave are whole requests, and the service found the end or that the device is gone, as where it is unmounted, then a tracer that was
-- just mounted served exactly these, and told in between what it owed; and where no write failed by ENOENT the writes took exactly the replies and what
-- was owed.
abbrev pub CallsAreServed : Type 0
CallsAreServed = (g : Terms) (requests : List (List ℕ)) (old new : DeviceSeen) (exchanges : List Exchange) (left : List ℕ) (after : Service) (serving : IsServing g old new exchanges left after) (ended : Ended)
    → All IsRequest requests → given serving.calls ≡ concat requests → ended ≢ Asked
    → EndsAs (Ok ended) (has_destroy exchanges) (owes_after g after) new.remaining serving.calls exchanges left → NoneInterrupted serving.calls
    → AreServed g exchanges after × (requests_in exchanges ≡ requests) × (taken serving.calls ≡ told exchanges)

-- likewise, if a reader had whole requests to give, and the bytes of a writer are known; such a reader has an end
abbrev pub KnownBytesAreServed : Type 0
KnownBytesAreServed = (g : Terms) (requests : List (List ℕ)) (held : List ℕ) (old new : DeviceSeen) (exchanges : List Exchange) (left : List ℕ) (after : Service) (serving : IsServing g old new exchanges left after)
    → All IsRequest requests → old.remaining ≡ Some (concat requests) → old.contents ≡ Some held
    → EndsAs (Ok AtEnd) (has_destroy exchanges) (owes_after g after) new.remaining serving.calls exchanges left → NoneInterrupted serving.calls
    → AreServed g exchanges after × (requests_in exchanges ≡ requests) × (new.contents ≡ Some (held ++ told exchanges))
