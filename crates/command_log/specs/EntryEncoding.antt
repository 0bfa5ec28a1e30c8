-- How an entry is written as bytes. No promise rests on this, since contracts see a history as its list of entries. Numbers have their low
-- byte first.
use Rattle.std.specs.Prelude.{ℕ, ℤ, ◌<◌, ◌^◌, nat_lt, FitsSigned, true, false, List, [], ◌∷◌, ◌++◌, length, Some, None, if◌then◌else◌}
use Rattle.std.specs.Int.{w32, w64, to_le_bytes, cast_unsigned}
use Rattle.trace_format.specs.declared.pair.Pair.{Pair}
use Rattle.trace_command.specs.Commands.{Command}
use Rattle.trace_command.specs.declared.command.CommandOf.TheVariants.{Emit, Mkdir, Rmdir, Write, Read}
use Rattle.trace_command.specs.declared.command.Entry.{Entry}

-- a length: a byte below 255, or 255 and eight bytes
unfoldable pub length_bytes : ℕ → List ℕ
length_bytes n = if nat_lt n 255 then n ∷ [] else 255 ∷ to_le_bytes w64 n

-- a string: its length, and its bytes
unfoldable pub text_bytes : List ℕ → List ℕ
text_bytes text = length_bytes (length text) ++ text

-- pairs: of each its name and its value
abbrev pub pairs_bytes : List Pair → List ℕ
pairs_bytes [] = []
pairs_bytes (pair ∷ pairs) = text_bytes pair.name ++ text_bytes pair.value ++ pairs_bytes pairs

-- an emission: kind, CPU, process, event, the number of pairs, and these
unfoldable pub emission_bytes : List ℕ → ℕ → ℤ → List Pair → List ℕ
emission_bytes event cpu pid pairs =
    0 ∷ [] ++ to_le_bytes w32 cpu ++ to_le_bytes w32 (cast_unsigned w32 pid) ++ text_bytes event ++ length_bytes (length pairs) ++ pairs_bytes pairs

-- any other command: kind, limit, path and text, of which it may lack some
unfoldable pub other_bytes : ℕ → ℕ → List ℕ → List ℕ → List ℕ
other_bytes kind limit path text = kind ∷ [] ++ to_le_bytes w64 limit ++ text_bytes path ++ text_bytes text

abbrev pub command_bytes : Command → List ℕ
command_bytes (Emit event cpu pid pairs) = emission_bytes event cpu pid pairs
command_bytes (Mkdir path) = other_bytes 1 0 path []
command_bytes (Rmdir path) = other_bytes 2 0 path []
command_bytes (Write path false text) = other_bytes 3 0 path text
command_bytes (Write path true text) = other_bytes 4 0 path text
command_bytes (Read path None) = other_bytes 5 0 path []
command_bytes (Read path (Some limit)) = other_bytes 6 limit path []

-- an entry: ticket, caller's number and command
unfoldable pub entry_bytes : Entry → List ℕ
entry_bytes entry = to_le_bytes w64 entry.ticket ++ to_le_bytes w32 entry.by ++ command_bytes entry.command

-- the strings of pairs are no longer than memory has room for
abbrev pub ArePairsShort : List Pair → Type 0
ArePairsShort [] = Unit {0}
ArePairsShort (pair ∷ pairs) = (length pair.name < 2 ^ 64) × (length pair.value < 2 ^ 64) × ArePairsShort pairs

-- a command whose numbers fit their types, and whose strings memory has room for
abbrev pub IsWritable : Command → Type 0
IsWritable (Emit event cpu pid pairs) =
    (length event < 2 ^ 64) × (cpu < 2 ^ 32) × FitsSigned w32 pid × (length pairs < 2 ^ 64) × ArePairsShort pairs
IsWritable (Mkdir path) = length path < 2 ^ 64
IsWritable (Rmdir path) = length path < 2 ^ 64
IsWritable (Write path append text) = (length path < 2 ^ 64) × (length text < 2 ^ 64)
IsWritable (Read path None) = length path < 2 ^ 64
IsWritable (Read path (Some limit)) = (length path < 2 ^ 64) × (limit < 2 ^ 64)
