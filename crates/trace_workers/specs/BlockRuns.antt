-- What a block of parts comes to, told by what the pass with all names knows: `v` is that before the block, and `w` after it.
use Rattle.std.specs.Prelude.{◌≡◌, ◌≢◌, ◌≤◌, ◌^◌, Vec, List, [], ◌∷◌, ◌++◌, map, All, Any, AllPairs}
use Rattle.std.specs.declared.alloc.Global.{Global}
use Rattle.ticket_lock.specs.Views.{HasAllNames}
use Rattle.ticket_lock.specs.declared.views.View.{View}
use Rattle.tracer_specification.specs.History.{IsLegal}
use Rattle.tracer_specification.specs.Blocks.{Trail, StandsIn, IsUnworn}
use Rattle.shared_book.specs.Bases.{numbers_of}
use Rattle.shared_book.specs.Asks.{IsAhead}
use Rattle.trace_workers.specs.declared.part.Part.{Part}
use Rattle.trace_command.specs.Commands.{Command}
use Rattle.trace_command.specs.declared.command.Config.{Config}
use Rattle.trace_command.specs.declared.command.Entry.{Entry}

-- the commands of each part, where this is the command that each of its turns asks for
abbrev pub commands_of : {C : Type 0} → (C → Command) → List (Vec C Global) → List (List Command)
commands_of {C} command parts = map (λ (part : Vec C Global). map command part.items) parts

-- the trail of each part: its commands, its caller's number and its replies
abbrev pub trails_of : List (List Command) → List Part → List Trail
trails_of (commands ∷ parts) (part ∷ done) = record { by = part.by; commands = commands; replies = part.replies.items } ∷ trails_of parts done
trails_of _ _ = []

-- the trail is one of the first of these commands
abbrev pub Begins : List Command → Trail → Type 0
Begins commands trail = (rest : List Command) × (commands ≡ trail.commands ++ rest)

-- The pass has all names and its base again. The history went on from what it had seen, by what these callers did and by nothing else: that is a
-- block (`IsBlock`) where the history before was legal, and all of one but `legal` where it was not.
pub record IsAfterBlock (v w : View Entry) (trails : List Trail) : Type 0 where
  pub names : HasAllNames w
  pub base : w.base ≡ v.base
  pub front : v.front ≤ w.front
  pub ahead : IsAhead v → IsAhead w
  pub after : List Entry
  pub seen : w.seen ≡ v.seen ++ after
  -- each trail stands in the history, no two have one number, and each new entry is of one of them
  pub each : (g : Config) → numbers_of g ≡ v.base → All (StandsIn g v.seen after) trails
  pub distinct : AllPairs (λ (one other : Trail). one.by ≢ other.by) trails
  pub callers : (g : Config) → numbers_of g ≡ v.base → All (λ (entry : Entry). Any (λ (trail : Trail). trail.by ≡ entry.by) trails) after
  pub legal : (g : Config) → numbers_of g ≡ v.base → IsLegal g v.seen → IsLegal g (v.seen ++ after)
  -- as long as there are tickets, no reply is Worn
  pub unworn : w.front ≢ 2 ^ 63 → All (λ (trail : Trail). IsUnworn trail.replies) trails
