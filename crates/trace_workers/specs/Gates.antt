-- What a gate answered to the parts of a block. `may` is what it may answer: to the part with this index in its block, at the command with this
-- index in its part, at this point. Both indexes count from 0.
-- That it is asked at `Asking` before the command, and at `Answered` after it, is not said by any of these.
use Rattle.std.specs.Prelude.{ℕ, ◌+◌, ◌<◌, Bool, true, false, List, [], map, length, get_or}
use Rattle.tracer_specification.specs.Blocks.{Trail}
use Rattle.trace_command.specs.Commands.{Command}
use Rattle.trace_workers.specs.declared.gate.Point.{Point}
use Rattle.trace_workers.specs.declared.gate.Point.TheVariants.{Asking, Answered}

-- the block has a part with the first index, and this part a command with the second
abbrev pub HasCommand : List (List Command) → ℕ → ℕ → Type 0
HasCommand parts thread call = (thread < length parts) × (call < length (get_or parts thread []))

-- the part with the first index has a reply with the second
abbrev pub HasReply : List Trail → ℕ → ℕ → Type 0
HasReply trails thread call = (thread < length trails) × (call < length (get_or (map (λ trail. trail.replies) trails) thread []))

-- It let all parts pass everywhere: at each command of each part, at both points, it may have answered `true`.
abbrev pub LetsAllPass : (ℕ → ℕ → Point → Bool → Type 0) → List (List Command) → Type 0
LetsAllPass may parts = (thread call : ℕ) (point : Point) → HasCommand parts thread call → may thread call point true

-- It let each part pass as far as the part came: for each command with a reply it may have answered `true` at `Asking`, and, if the next command has
-- a reply, too, at `Answered`.
pub record LetsBegunPass (may : ℕ → ℕ → Point → Bool → Type 0) (trails : List Trail) : Type 0 where
  pub asking : (thread call : ℕ) → HasReply trails thread call → may thread call Asking true
  pub answered : (thread call : ℕ) → HasReply trails thread (call + 1) → may thread call Answered true

-- It stopped a part: at one of its commands, at one of the points, it may have answered `false`.
pub record StopsOne (may : ℕ → ℕ → Point → Bool → Type 0) (parts : List (List Command)) : Type 0 where
  pub thread : ℕ
  pub call : ℕ
  pub point : Point
  pub has : HasCommand parts thread call
  pub stopped : may thread call point false
