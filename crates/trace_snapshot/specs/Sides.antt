-- The two sides of an instance's rings (ftrace.rst, "Snapshot"): the live one, which is written to, and the spare one, which holds what was
-- live before. What a caller sees of them, and what happened to the rings of each.
use Rattle.std.specs.Prelude.{◌≡◌, ℕ, List, [], replicate, Option, Some, None, unwrap_or, ⊤}
use Rattle.std.specs.Option.{option_map}
use Rattle.page_ring.specs.Events.{Event}
use Rattle.trace_buffer.specs.Buffers as buffers
use Rattle.trace_buffer.specs.Families.{all_cleared}

-- the shape that a new side has, the live side, and the spare one, if there is one
pub record SidesSeen : Type 0 where
  pub cpus : ℕ
  pub pages : ℕ
  pub page_bytes : ℕ
  pub live : buffers.Seen
  pub spare : Option buffers.Seen

-- what happened to the rings of each side: a list of ring events for each CPU
pub record SideFamilies : Type 0 where
  pub live : List (List Event)
  pub spare : Option (List (List Event))

-- each side agrees with its lists, and there is a spare exactly where there are lists of one
abbrev pub SpareStandsFor : Option buffers.Seen → Option (List (List Event)) → Type 0
SpareStandsFor None None = ⊤
SpareStandsFor (Some spare) (Some family) = buffers.StandsFor spare family
SpareStandsFor _ _ = ⊥

pub record StandsFor (sides : SidesSeen) (families : SideFamilies) : Type 0 where
  pub live : buffers.StandsFor sides.live families.live
  pub spare : SpareStandsFor sides.spare families.spare

-- ---- what becomes of the sides

-- an empty spare for so many CPUs is made, if there is none
abbrev pub with_spare : ℕ → SideFamilies → SideFamilies
with_spare cpus f = record { live = f.live; spare = Some (unwrap_or f.spare (replicate cpus [])) }

-- the spare is freed
abbrev pub without_spare : SideFamilies → SideFamilies
without_spare f = record { live = f.live; spare = None }

-- the spare is emptied, if there is one
abbrev pub spare_cleared : SideFamilies → SideFamilies
spare_cleared f = record { live = f.live; spare = option_map all_cleared f.spare }

-- the sides are exchanged, contents and statistics, and nothing is cleared; without a spare nothing happens
abbrev pub exchanged_with : List (List Event) → Option (List (List Event)) → SideFamilies
exchanged_with live None = record { live = live; spare = None }
exchanged_with live (Some spare) = record { live = spare; spare = Some live }

abbrev pub exchanged : SideFamilies → SideFamilies
exchanged f = exchanged_with f.live f.spare

-- ---- the words of contracts

-- a new side for so many CPUs, of so many pages of so many bytes: nothing happened to its rings
pub record IsNewSide (k p b : ℕ) (side : buffers.Seen) : Type 0 where
  pub stands : buffers.StandsFor side (replicate k [])
  pub cpus : buffers.cpus side ≡ k
  pub pages : side.pages ≡ p
  pub page_bytes : side.page_bytes ≡ b
  pub offers : buffers.offers side ≡ replicate k 0

-- the side is the spare that was there, or a new one of the sides' shape if there was none
abbrev pub IsSpareOf : SidesSeen → Option buffers.Seen → buffers.Seen → Type 0
IsSpareOf sides None side = IsNewSide sides.cpus sides.pages sides.page_bytes side
IsSpareOf sides (Some spare) side = side ≡ spare

-- a spare of the same shape that was offered nothing is there exactly where there was a spare
abbrev pub IsSpareCleared : Option buffers.Seen → Option buffers.Seen → Type 0
IsSpareCleared None None = ⊤
IsSpareCleared (Some old) (Some new) =
    (buffers.cpus new ≡ buffers.cpus old) × (new.pages ≡ old.pages) × (new.page_bytes ≡ old.page_bytes)
    × (buffers.offers new ≡ replicate (buffers.cpus old) 0)
IsSpareCleared _ _ = ⊥

-- the shape is as it was
abbrev pub HasShapeOf : SidesSeen → SidesSeen → Type 0
HasShapeOf old new = (new.cpus ≡ old.cpus) × (new.pages ≡ old.pages) × (new.page_bytes ≡ old.page_bytes)
