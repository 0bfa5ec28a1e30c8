-- How a copy's fields show, and what is true of them.
use Rattle.std.specs.Prelude.{ℕ, ◌≤◌, ◌^◌, length}
use Rattle.page_ring.specs.Account.{readings_from}
use Rattle.page_ring.specs.Copies.{Copied}
use Rattle.page_ring.specs.Pages.{kept_in}
use Rattle.page_ring.specs.Shown.{most_offered}
use Rattle.page_ring.specs.Sound.{IsRising}
use Rattle.page_ring.specs.declared.ring_copy.RingCopy.TheInside.{Inside}

abbrev pub copied : Inside → Copied
copied c = record { stats = c.stats; readings = readings_from c.next (kept_in c.pages) }

-- the numbers of the records rise, and they are few
pub record IsCopy (c : Inside) : Type 0 where
  pub rising : IsRising c.next most_offered (kept_in c.pages)
  pub few : length (kept_in c.pages) ≤ 2 ^ 32
