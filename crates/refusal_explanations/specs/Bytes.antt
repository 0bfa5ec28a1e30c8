-- What bytes a string has.
use Rattle.std.specs.Prelude.{ℕ, ◌-◌, Bool, false, ◌==◌, List, length, take, Option, Some, None, slice_get}
use Rattle.std.specs.List.{prefix_len}
use Rattle.trace_lex.specs.Prefixes.{is_not}
use Rattle.trace_trigger.specs.TriggerTexts.{word_of}

abbrev pub is_same_byte : ℕ → ℕ → Bool
is_same_byte byte b = b == byte

-- what comes before the first blank, and before the first byte of this value
abbrev pub part_before : ℕ → List ℕ → List ℕ
part_before byte text = take (prefix_len (is_not byte) (word_of text)) (word_of text)

abbrev pub is_byte : ℕ → Option ℕ → Bool
is_byte byte None = false
is_byte byte (Some b) = b == byte

-- whether a string ends with a byte
abbrev pub ends_with : ℕ → List ℕ → Bool
ends_with byte text = is_byte byte (slice_get text (length text - 1))
