-- What holds of all sides, and what a clause sees of them.
use Rattle.std.specs.Prelude.{◌≡◌, ◌≤◌, ◌%◌}
use Rattle.trace_snapshot.specs.Sides.{SidesSeen}
use Rattle.trace_snapshot.specs.declared.sides.Sides.TheInside.{Inside}

abbrev pub seen : Inside → SidesSeen
seen s = record { cpus = s.cpus; pages = s.pages; page_bytes = s.page_bytes; live = s.live; spare = s.spare }

-- rings of the sides' shape can be made
pub record IsSound (s : Inside) : Type 0 where
  pub some_cpus : 1 ≤ s.cpus
  pub few_cpus : s.cpus ≤ 8
  pub some_pages : 2 ≤ s.pages
  pub few_pages : s.pages ≤ 1024
  pub some_bytes : 64 ≤ s.page_bytes
  pub few_bytes : s.page_bytes ≤ 4080
  pub eights : s.page_bytes % 8 ≡ 0
