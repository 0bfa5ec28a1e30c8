-- A thread's console as contracts see it.
use Rattle.std.specs.Prelude.{ℕ, Bool, List, Option}
use Rattle.atomic_table.specs.Seated.{TableId}
use Rattle.ticket_lock.specs.declared.views.View.{View}
use Rattle.trace_script.specs.declared.outcome.Outcome.{Outcome}
use Rattle.shared_mount.specs.LiveMountSeen.{SharedTerms}
use Rattle.shared_mount.specs.MountEntries.{EntrySeen}

-- what its caller knows of the history
pub record Known : Type 0 where
  pub view : View EntrySeen

-- Its tracer, by the table of the lock and by what it was made with; its caller, which one that has left has none of; whether it is in line; what
-- the last call came to, and if it was not done, what is wrong, in words.
pub record ConsoleSeen : Type 0 where
  pub tracer : TableId
  pub terms : SharedTerms
  pub has : Option Known
  pub is_in_line : Bool
  pub last : Outcome
  pub words : List ℕ
