-- Prefixes of strings.
use Rattle.std.specs.Prelude.{ℕ, Bool, not, ◌==◌}

-- any byte but this one
abbrev pub is_not : ℕ → ℕ → Bool
is_not byte b = not (b == byte)
