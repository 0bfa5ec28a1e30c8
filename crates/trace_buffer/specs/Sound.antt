-- What holds of every buffer, and what a clause sees of it.
use Rattle.std.specs.Prelude.{◌≡◌, ℕ, ◌≤◌, List, [], ◌∷◌, length, ⊤}
use Rattle.page_ring.specs.Shown as ring
use Rattle.trace_buffer.specs.Buffers.{Seen}
use Rattle.trace_buffer.specs.declared.buffer.Buffer.TheInside.{Inside}

abbrev pub seen : Inside → Seen
seen b = record { pages = b.pages; page_bytes = b.page_bytes; rings = b.rings.items }

-- each ring has this shape
abbrev pub HasShape : ℕ → ℕ → List ring.Seen → Type 0
HasShape pages page_bytes [] = ⊤
HasShape pages page_bytes (r ∷ rings) = (r.pages ≡ pages) × (r.page_bytes ≡ page_bytes) × HasShape pages page_bytes rings

-- one to eight rings, all of the buffer's shape
pub record IsSound (b : Inside) : Type 0 where
  pub some : 1 ≤ length b.rings.items
  pub few : length b.rings.items ≤ 8
  pub shape : HasShape b.pages b.page_bytes b.rings.items
