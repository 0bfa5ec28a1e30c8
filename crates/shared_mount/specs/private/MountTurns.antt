-- A turn at the lock.
use Rattle.std.specs.Prelude.{◌≡◌, ℕ}
use Rattle.ticket_lock.specs.Calls.{IsDrawn, Finds}
use Rattle.ticket_lock.specs.declared.views.View.{View}
use Rattle.shared_mount.specs.LiveMountSeen.{LiveMountSeen, SharedTerms, numbers_of}
use Rattle.shared_mount.specs.MountEntries.{EntrySeen, caller_of, ticket_of}

-- It is the turn of a pass that knew `v` before it, and in which it knows `h` and has this value.
pub record IsTurnAfter (v h : View EntrySeen) (served : ℕ) (value : LiveMountSeen) : Type 0 where
  pub drawn : IsDrawn v h served
  pub finds : Finds ticket_of caller_of v served h.seen
  pub entries_are : value.entries ≡ h.seen
  pub base : numbers_of value.terms ≡ v.base

-- and its base has these numbers
pub record TakenIn (v h : View EntrySeen) (served : ℕ) (value : LiveMountSeen) (g : SharedTerms) : Type 0 where
  pub turn : IsTurnAfter v h served value
  pub same : numbers_of g ≡ v.base
