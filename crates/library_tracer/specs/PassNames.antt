-- The names of passes: 1,024 of 64 each, which tile the names from 0 to 65,535.
use Rattle.std.specs.Prelude.{◌≡◌, ℕ, ◌+◌, ◌*◌, List, [], Option, Some, None, IfSome}
use Rattle.std.specs.List.{slice_get}
use Rattle.ticket_lock.specs.declared.views.View.{View}
use Rattle.shared_mount.specs.LiveMountSeen.{SharedTerms, numbers_of}
use Rattle.shared_mount.specs.MountEntries.{EntrySeen}
use Rattle.library_tracer.specs.ConsolesSeen.{Known}

abbrev pub pass_count : ℕ
pass_count = 1024

abbrev pub names_each : ℕ
names_each = 64

-- the pass at this index has these names
pub record HasNames (index : ℕ) (v : View EntrySeen) : Type 0 where
  pub low : v.low ≡ names_each * index
  pub end : v.end ≡ names_each * index + names_each

-- the pass at this index, if it is there, has these names
abbrev pub HasNamesIfThere : ℕ → Option Known → Type 0
HasNamesIfThere index None = Unit {0}
HasNamesIfThere index (Some known) = HasNames index known.view

-- each that is there has those of its index
abbrev pub AreByName : List (Option Known) → Type 0
AreByName callers = (index : ℕ) → IfSome (slice_get callers index) (HasNamesIfThere index)

-- Nothing was done as far as it knows, of a tracer that was made with these.
pub record IsFresh (terms : SharedTerms) (known : Known) : Type 0 where
  pub seen : known.view.seen ≡ []
  pub base : known.view.base ≡ numbers_of terms

abbrev pub IsThereFresh : SharedTerms → Option Known → Type 0
IsThereFresh terms None = ⊥
IsThereFresh terms (Some known) = IsFresh terms known
