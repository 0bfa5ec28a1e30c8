-- How rare the bytes of a line are, so that one look at them tells which way of reading serves, and at which of them a word ends.
use Rattle.std.specs.Prelude.{ℕ, ◌+◌, max, ◌==◌, nat_le, Bool, not, ◌||◌, if◌then◌else◌, List, [], ◌∷◌}
use Rattle.trace_script.specs.Lines.{is_line_byte}
use Rattle.trace_script.specs.Tokens.{is_quote}

-- 0 for a byte of a word or a blank, 1 for `>`, 2 for a quote, 3 for one that no line may have
abbrev pub rank : ℕ → ℕ
rank b = (if is_line_byte b then 0 else 3) + (if is_quote b then 2 else 0) + (if b == 62 then 1 else 0)

abbrev pub highest_rank : List ℕ → ℕ
highest_rank [] = 0
highest_rank (b ∷ bs) = max (rank b) (highest_rank bs)

-- a byte of another rank than 0
abbrev pub is_rare : ℕ → Bool
is_rare b = not (rank b == 0)

-- a byte that is not above a space, or is this one
abbrev pub is_stop : ℕ → ℕ → Bool
is_stop end b = nat_le b 32 || b == end
