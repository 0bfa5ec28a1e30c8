-- How entries are read from bytes: what each part is, and the bytes after it. Every list of bytes reads as something, so nothing here says what
-- bytes are right: those of a history are, since it wrote them.
use Rattle.std.specs.Prelude.{ℕ, zero, suc, ◌==◌, true, false, List, [], ◌∷◌, Some, None, slice_index, take, drop, if◌then◌else◌}
use Rattle.std.specs.Int.{w32, w64, from_le_bytes, cast_signed}
use Rattle.trace_format.specs.declared.pair.Pair.{Pair}
use Rattle.trace_command.specs.Commands.{Command}
use Rattle.trace_command.specs.declared.command.CommandOf.TheVariants.{Emit, Mkdir, Rmdir, Write, Read}
use Rattle.trace_command.specs.declared.command.Entry.{Entry}

-- a length
unfoldable pub length_in : List ℕ → ℕ
length_in bytes = if slice_index bytes 0 == 255 then from_le_bytes w64 (drop 1 bytes) else slice_index bytes 0

unfoldable pub after_length : List ℕ → List ℕ
after_length bytes = if slice_index bytes 0 == 255 then drop 8 (drop 1 bytes) else drop 1 bytes

-- a string
unfoldable pub text_in : List ℕ → List ℕ
text_in bytes = take (length_in bytes) (after_length bytes)

unfoldable pub after_text : List ℕ → List ℕ
after_text bytes = drop (length_in bytes) (after_length bytes)

-- so many pairs
abbrev pub pairs_in : ℕ → List ℕ → List Pair
pairs_in zero bytes = []
pairs_in (suc count) bytes =
    record { name = text_in bytes; value = text_in (after_text bytes) } ∷ pairs_in count (after_text (after_text bytes))

abbrev pub after_pairs : ℕ → List ℕ → List ℕ
after_pairs zero bytes = bytes
after_pairs (suc count) bytes = after_pairs count (after_text (after_text bytes))

-- an emission, after its kind
unfoldable pub emission_in : List ℕ → Command
emission_in bytes =
    let event = drop 4 (drop 4 bytes) in
    let pairs = after_text event in
    Emit (text_in event) (from_le_bytes w32 bytes) (cast_signed w32 (from_le_bytes w32 (drop 4 bytes))) (pairs_in (length_in pairs) (after_length pairs))

unfoldable pub after_emission : List ℕ → List ℕ
after_emission bytes =
    let pairs = after_text (drop 4 (drop 4 bytes)) in
    after_pairs (length_in pairs) (after_length pairs)

-- the command of a kind with these parts
abbrev pub other_of : ℕ → ℕ → List ℕ → List ℕ → Command
other_of kind limit path text =
    if kind == 1 then Mkdir path else
    (if kind == 2 then Rmdir path else
    (if kind == 3 then Write path false text else
    (if kind == 4 then Write path true text else
    (if kind == 5 then Read path None else Read path (Some limit)))))

-- any other command, after its kind
unfoldable pub other_in : ℕ → List ℕ → Command
other_in kind bytes =
    other_of kind (from_le_bytes w64 bytes) (text_in (drop 8 bytes)) (text_in (after_text (drop 8 bytes)))

unfoldable pub after_other : List ℕ → List ℕ
after_other bytes = after_text (after_text (drop 8 bytes))

-- a command
unfoldable pub command_in : List ℕ → Command
command_in bytes = if slice_index bytes 0 == 0 then emission_in (drop 1 bytes) else other_in (slice_index bytes 0) (drop 1 bytes)

unfoldable pub after_command : List ℕ → List ℕ
after_command bytes = if slice_index bytes 0 == 0 then after_emission (drop 1 bytes) else after_other (drop 1 bytes)

-- an entry
unfoldable pub entry_in : List ℕ → Entry
entry_in bytes = record {
  ticket = from_le_bytes w64 bytes;
  by = from_le_bytes w32 (drop 8 bytes);
  command = command_in (drop 4 (drop 8 bytes));
}

unfoldable pub after_entry : List ℕ → List ℕ
after_entry bytes = after_command (drop 4 (drop 8 bytes))
