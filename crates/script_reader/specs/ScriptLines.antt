-- The lines of a script, and of what is left of one.
use Rattle.std.specs.Prelude.{ℕ, ◌+◌, ◌==◌, List, [], length, Option, Some, None}
use Rattle.std.specs.List.{slice_split}

-- the lines of a script; a newline ends a line, and an empty line, which says nothing, follows the last one
abbrev pub lines_of : List ℕ → List (List ℕ)
lines_of script = slice_split (λ b. b == 10) script

-- the lines of what is left of a script, if anything is
abbrev pub lines_left : Option (List ℕ) → List (List ℕ)
lines_left None = []
lines_left (Some rest) = lines_of rest

-- one more than the bytes of what is left, or 0 where nothing is
abbrev pub bytes_left : Option (List ℕ) → ℕ
bytes_left None = 0
bytes_left (Some rest) = length rest + 1
