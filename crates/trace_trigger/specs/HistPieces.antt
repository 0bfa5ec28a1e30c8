-- Strings that are cut at a byte, with the offset of each part (histogram.rst, "hist triggers": attributes are separated by `:`, the names of a list
-- by `,`).
use Rattle.std.specs.Prelude.{ℕ, ◌+◌, ◌==◌, if◌then◌else◌, List, [], ◌∷◌}
use Rattle.trace_trigger.specs.declared.piece.ListItem.{ListItem}

-- a byte more at the beginning of the first part
abbrev pub lengthened : ℕ → ℕ → List ListItem → List ListItem
lengthened at byte [] = []
lengthened at byte (piece ∷ pieces) = record { at = at; bytes = byte ∷ piece.bytes } ∷ pieces

-- the parts of a string that begins at an offset: a separator ends one part and begins the next
abbrev pub pieces_of : ℕ → ℕ → List ℕ → List ListItem
pieces_of separator at [] = record { at = at; bytes = [] } ∷ []
pieces_of separator at (byte ∷ bytes) = if byte == separator
    then record { at = at; bytes = [] } ∷ pieces_of separator (at + 1) bytes else lengthened at byte (pieces_of separator (at + 1) bytes)
