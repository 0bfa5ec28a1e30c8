-- What a mounted tracer answers as a service's server.
use Rattle.std.specs.Prelude.{◌≡◌, ℕ, Bool, List, [], ◌∷◌}
use Rattle.mount_service.specs.TracerServices.{is_destroy}
use Rattle.mount_service.specs.declared.mount_server.MountServer.{MountServer}
use Rattle.trace_command.specs.Requests.{Request}
use Rattle.mount_replies.specs.Mounted.{IsCalled, IsMounted, IsOwedCalled, MountSeen}

-- a request was answered by these bytes, or for none they are what was owed
abbrev pub IsTurn : List Request → MountSeen → MountSeen → List ℕ → List ℕ → Type 0
IsTurn past old new [] reply = IsOwedCalled past old new reply
IsTurn past old new (byte ∷ request) reply = IsCalled past old new (byte ∷ request) reply

-- whether a server is destroyed after this: what is owed changes nothing of that
abbrev pub destroyed_after : Bool → List ℕ → Bool
destroyed_after was [] = was
destroyed_after was (byte ∷ request) = is_destroy (byte ∷ request)

-- in the first state it answers this request by this reply, and is in the second state then: whatever led to the mounted tracer before
pub record Answers (before : MountServer) (request : List ℕ) (after : MountServer) (reply : List ℕ) : Type 0 where
  pub called : (past : List Request) → IsMounted past before.mount → IsTurn past before.mount after.mount request reply
  pub destroyed : after.is_destroyed ≡ destroyed_after before.is_destroyed request
