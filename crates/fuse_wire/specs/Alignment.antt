-- Multiples of eight.
use Rattle.std.specs.Prelude.{ℕ, ◌+◌, ◌-◌, ◌*◌, ◌/◌}

-- how many more bytes make so many a multiple of eight (FUSE_REC_ALIGN)
abbrev pub padding : ℕ → ℕ
padding count = 8 * ((count + 7) / 8) - count
