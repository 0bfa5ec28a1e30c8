-- Where the process of a record lies.
use Rattle.std.proofs.Common.{◌≡◌, ℕ, ◌/◌, ◌%◌, ◌^◌, ℤ, pos, negsuc, [], ◌∷◌, refl, arith}
use Rattle.std.specs.Int.{w32, to_le_bytes, cast_unsigned}
use Rattle.trace_format.specs.Cells.{little_endian, two's_complement}
use Rattle.trace_record.specs.Record.{head_bytes}
use Rattle.record_text.specs.FieldText.{field_text}
use Rattle.record_text.specs.FormatText.{field_line, common_pid_line}
use Rattle.record_text.specs.Laws.{ProcessHasLine, ProcessLiesAtOffset}

-- a head's number of four bytes is written as a row's
low_first : (n : ℕ) → to_le_bytes w32 n ≡ little_endian 4 n
low_first n =
    let second : n / 256 ^ 1 % 256 ≡ n / 256 % 256 = omega arith in
    let third : n / 256 ^ 2 % 256 ≡ n / 256 / 256 % 256 = omega arith in
    let fourth : n / 256 ^ 3 % 256 ≡ n / 256 / 256 / 256 % 256 = omega arith in
    (λ i. n % 256 ∷ second i ∷ third i ∷ fourth i ∷ [])

signed_low_first : (z : ℤ) → to_le_bytes w32 (cast_unsigned w32 z) ≡ little_endian 4 (two's_complement 4 z)
signed_low_first (pos n) = low_first n
signed_low_first (negsuc n) = low_first (cast_unsigned w32 (negsuc n))

pub process_has_line : ProcessHasLine
unfolding common_pid_line field_line field_text
process_has_line = refl

pub process_lies_at_offset : ProcessLiesAtOffset
unfolding head_bytes
process_lies_at_offset head rest = signed_low_first head.pid
