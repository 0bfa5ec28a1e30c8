-- What one `ask` comes to, told by what the caller's pass knows: `v` is that before the call, and `w` after it.
use Rattle.std.specs.Prelude.{◌≡◌, ◌≢◌, ℕ, ◌+◌, ◌<◌, ◌≤◌, List, [], ◌∷◌, ◌++◌, All, Err, IfErr}
use Rattle.ticket_lock.specs.Calls.{mine_of, IsWorn}
use Rattle.ticket_lock.specs.Entries.{entries_under}
use Rattle.ticket_lock.specs.Views.{HasAllNames}
use Rattle.ticket_lock.specs.declared.views.View.{View}
use Rattle.tracer_specification.specs.History.{answer_to}
use Rattle.tracer_specification.specs.LateMemory.{TakesMemoryLate}
use Rattle.tracer_specification.specs.Trails.{IsDoneAfter, IsRefusedAfter}
use Rattle.shared_book.specs.Bases.{numbers_of}
use Rattle.trace_command.specs.Refusals.{IsFoundEarly}
use Rattle.trace_command.specs.Requests.{request_of}
use Rattle.trace_command.specs.Commands.{Command}
use Rattle.trace_command.specs.declared.command.Config.{Config}
use Rattle.trace_command.specs.declared.command.Entry.{Entry}
use Rattle.trace_command.specs.declared.command.Reply.{Reply}
use Rattle.trace_command.specs.declared.refusal.Refusal.{Refusal}
use Rattle.trace_command.specs.declared.refusal.Refusal.TheVariants.{Memory, Worn}

-- the number of the caller that made an entry
abbrev pub caller_of : Entry → ℕ
caller_of entry = entry.by

-- the front is above the tickets of all entries that the pass has seen
abbrev pub IsAhead : View Entry → Type 0
IsAhead v = All (λ (entry : Entry). entry.ticket < v.front) v.seen

-- The pass keeps its names and its base. Its front never falls, and stays ahead of what the pass has seen.
pub record GoesOn (v w : View Entry) : Type 0 where
  pub low : w.low ≡ v.low
  pub end : w.end ≡ v.end
  pub base : w.base ≡ v.base
  pub front : v.front ≤ w.front
  pub ahead : IsAhead v → IsAhead w

-- A ticket was drawn: the front has risen, and that of a pass with all names by just one.
pub record Rises (v w : View Entry) : Type 0 where
  pub risen : v.front < w.front
  pub all_names : HasAllNames v → w.front ≡ v.front + 1

-- none of these entries is under the pass's names
abbrev pub AreOthers : View Entry → List Entry → Type 0
AreOthers v entries = entries_under caller_of v.low v.end entries ≡ []

-- A call that was done. Since the pass last saw the history, others had done what `others` lists; nothing, where it has all names. All these entries answer the command with
-- this reply, and the one that comes after them is of this command, under the first of the pass's names; of the pass's own entries it is the new one.
pub record IsDone (v w : View Entry) (command : Command) (reply : Reply) : Type 0 where
  pub others : List Entry
  pub entry : Entry
  pub seen : w.seen ≡ v.seen ++ others ++ entry ∷ []
  pub by_others : AreOthers v others
  pub alone : HasAllNames v → others ≡ []
  pub mine : mine_of caller_of w ≡ mine_of caller_of v ++ entry ∷ []
  pub done : (g : Config) → numbers_of g ≡ v.base → IsDoneAfter g v.low (v.seen ++ others) command reply entry
  pub ticket : w.front ≡ entry.ticket + 1
  pub rises : Rises v w

-- A call that was refused. What the pass sees now is what others have done, nothing where it has all names; the pass has no new entry. Unless the refusal is Memory, or the lock's own
-- Worn, it is what all these entries answer. A refusal that is found before any memory is taken is told though memory was refused (`early`), and so
-- is any of a command that takes memory late (`late_memory`). Where it is Worn, the pass saw nothing new and all tickets are drawn.
pub record IsRefused (v w : View Entry) (command : Command) (refusal : Refusal) : Type 0 where
  pub others : List Entry
  pub seen : w.seen ≡ v.seen ++ others
  pub by_others : AreOthers v others
  pub alone : HasAllNames v → others ≡ []
  pub mine : mine_of caller_of w ≡ mine_of caller_of v
  pub answer : (g : Config) → numbers_of g ≡ v.base → refusal ≢ Memory → IsRefusedAfter g w.seen command refusal
  pub early : (g : Config) → numbers_of g ≡ v.base → refusal ≢ Worn → IsFoundEarly (answer_to g w.seen command) → answer_to g w.seen command ≡ Err refusal
  pub late_memory : (g : Config) → numbers_of g ≡ v.base → refusal ≢ Worn → TakesMemoryLate (request_of command)
      → IfErr (answer_to g w.seen command) (λ answered. answered ≡ refusal)
  pub rises : refusal ≢ Worn → Rises v w
  pub worn : refusal ≡ Worn → IsWorn v w

-- A call that did nothing. What the pass sees now is what others have done.
pub record IsUndone (v w : View Entry) : Type 0 where
  pub others : List Entry
  pub seen : w.seen ≡ v.seen ++ others
  pub by_others : AreOthers v others
