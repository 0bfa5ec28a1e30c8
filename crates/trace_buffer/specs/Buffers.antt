-- What a caller sees of a buffer, and when that agrees with a list of ring events for each CPU.
use Rattle.std.specs.Prelude.{ℕ, List, [], ◌∷◌, length, map, ⊤}
use Rattle.page_ring.specs.Events.{Event}
use Rattle.page_ring.specs.Shown as ring

-- a buffer as contracts see it: the shape that its rings have, and its rings, one for each CPU
pub record Seen : Type 0 where
  pub pages : ℕ
  pub page_bytes : ℕ
  pub rings : List ring.Seen

-- the number of CPUs
abbrev pub cpus : Seen → ℕ
cpus buffer = length buffer.rings

-- each ring agrees with the list of its CPU
abbrev pub EachStandsFor : List ring.Seen → List (List Event) → Type 0
EachStandsFor [] [] = ⊤
EachStandsFor (r ∷ rings) (events ∷ family) = ring.StandsFor r events × EachStandsFor rings family
EachStandsFor _ _ = ⊥

unfoldable pub StandsFor : Seen → List (List Event) → Type 0
StandsFor buffer family = EachStandsFor buffer.rings family

-- how many records each CPU's ring accepted or dropped since it was new or cleared
abbrev pub offers : Seen → List ℕ
offers buffer = map ring.offered buffer.rings
