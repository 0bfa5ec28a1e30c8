-- What is done under the names of a pass, told by what the pass knows: `v` is that before, and `w` after. No public contract needs these words: they
-- are how the promise of a block is put together, first from the calls of one worker, and then from the parts, where their passes are joined.
use Rattle.std.specs.Prelude.{◌≡◌, ◌≢◌, ℕ, ◌+◌, ◌≤◌, ◌<◌, ◌^◌, ◌⊎◌, Bool, true, false, List, [], ◌∷◌, ◌++◌, take, length, All, Any, AllPairs, Result, Option, None, Some}
use Rattle.ticket_lock.specs.declared.views.View.{View}
use Rattle.tracer_specification.specs.History.{IsLegal}
use Rattle.tracer_specification.specs.Blocks.{Trail, StandsIn, IsUnworn}
use Rattle.shared_book.specs.Bases.{numbers_of}
use Rattle.shared_book.specs.Asks.{GoesOn}
use Rattle.trace_workers.specs.Ends.{StopsHere, IsShort}
use Rattle.trace_workers.specs.declared.fault.BlockFault.{BlockFault}
use Rattle.trace_workers.specs.declared.fault.BlockFault.TheVariants.{Memory, Stopped, NoThread}
use Rattle.trace_workers.specs.declared.gate.Point.{Point}
use Rattle.trace_workers.specs.declared.gate.Point.TheVariants.{Asking, Answered}
use Rattle.trace_workers.specs.declared.part.Part.{Part}
use Rattle.trace_command.specs.Commands.{Command}
use Rattle.trace_command.specs.declared.command.Config.{Config}
use Rattle.trace_command.specs.declared.command.Entry.{Entry}
use Rattle.trace_command.specs.declared.command.Reply.{Reply}
use Rattle.trace_command.specs.declared.refusal.Refusal.{Refusal}

-- the number is one of the pass's names
abbrev pub IsNameOf : View Entry → ℕ → Type 0
IsNameOf v by = (v.low ≤ by) × (by < v.end)

-- These trails are all that was done under the pass's names.
pub record HasRun (v w : View Entry) (trails : List Trail) : Type 0 where
  pub goes_on : GoesOn v w
  pub after : List Entry
  pub seen : w.seen ≡ v.seen ++ after
  pub each : (g : Config) → numbers_of g ≡ v.base → All (StandsIn g v.seen after) trails
  pub named : All (λ (trail : Trail). IsNameOf v trail.by) trails
  pub distinct : AllPairs (λ (one other : Trail). one.by ≢ other.by) trails
  pub callers : (g : Config) → numbers_of g ≡ v.base
      → All (λ (entry : Entry). IsNameOf v entry.by → Any (λ (trail : Trail). trail.by ≡ entry.by) trails) after
  pub legal : (g : Config) → numbers_of g ≡ v.base → IsLegal g v.seen → IsLegal g w.seen
  pub unworn : w.front < 2 ^ 63 → All (λ (trail : Trail). IsUnworn trail.replies) trails

-- the first of these commands, as many as there are replies, with the replies
abbrev pub begun_trail : ℕ → List Command → List (Result Reply Refusal) → Trail
begun_trail by commands replies = record { by = by; commands = take (length replies) commands; replies = replies }

-- One worker asked these commands under the pass's first name, up to a fault if there was one, and these are the replies.
pub record HasAsked (v w : View Entry) (commands : List Command) (replies : List (Result Reply Refusal)) (fault : Option BlockFault) : Type 0 where
  pub run : HasRun v w (begun_trail v.low commands replies ∷ [])
  pub few : length replies ≤ length commands
  pub whole : fault ≡ None → length replies ≡ length commands

-- What the gate answered to one worker, whose part came to these replies and this fault; `may` is what it may answer at the command with this index.
-- Each command with a reply was let pass, before it and after it: after the last one not if the worker was stopped. If it was, that was at one of its
-- commands.
pub record IsGated (may : ℕ → Point → Bool → Type 0) (commands : List Command) (replies : List (Result Reply Refusal)) (fault : Option BlockFault) : Type 0 where
  pub asking : (call : ℕ) → call < length replies → may call Asking true
  pub answered : (call : ℕ) → call < length replies → (fault ≡ Some Stopped → call + 1 < length replies) → may call Answered true
  pub stopped : fault ≡ Some Stopped → (call : ℕ) × (point : Point) × (call < length commands) × may call point false
  -- it ended where its replies end
  pub place : fault ≡ Some Stopped → StopsHere may commands replies
  pub short : fault ≡ Some Memory → IsShort commands replies
  pub none : fault ≡ Some NoThread → replies ≡ []

-- what was asked of each part
abbrev pub begun_trails : List (List Command) → List Part → List Trail
begun_trails (commands ∷ parts) (part ∷ done) = begun_trail part.by commands part.replies.items ∷ begun_trails parts done
begun_trails _ _ = []

-- each part has as many replies as commands
abbrev pub AreWhole : List (List Command) → List Part → Type 0
AreWhole [] [] = Unit {0}
AreWhole (commands ∷ parts) (part ∷ done) = (length part.replies.items ≡ length commands) × AreWhole parts done
AreWhole [] (part ∷ done) = ⊥
AreWhole (commands ∷ parts) [] = ⊥

-- a pass that has seen anything new has seen no other entries than those of callers
abbrev pub SeesCallers : View Entry → View Entry → Type 0
SeesCallers v w = (w.seen ≡ v.seen) ⊎ All (λ (entry : Entry). entry.by < 65536) w.seen
