-- Bits for the bytes of a short line, by which its words are found.
use Rattle.std.specs.Prelude.{◌≡◌, ℕ, ◌+◌, ◌≤◌, ◌==◌, nat_le, Bool, map, List, ◌∷◌, ◌++◌, length}
use Rattle.std.specs.Simd.Lanes.{mask_l}
use Rattle.trace_script.specs.declared.marked.Marked.{Marked}

-- a byte that is at most a space
abbrev pub is_low : ℕ → Bool
is_low b = nat_le b 32

abbrev pub is_equals : ℕ → Bool
is_equals b = b == 61

-- A bit for each byte of a line, and of what follows it in a block, for which a test holds.
pub record AreBits (test : ℕ → Bool) (line after : List ℕ) (bits : ℕ) : Type 0 where
  pub few : length line + length after ≤ 64
  pub are : bits ≡ mask_l (map test (line ++ after))

-- a line that a newline follows in a block
pub record IsMarked (line : Marked) : Type 0 where
  pub after : List ℕ
  pub low : AreBits is_low line.text.now (10 ∷ after) line.low
  pub equals : AreBits is_equals line.text.now (10 ∷ after) line.equals
