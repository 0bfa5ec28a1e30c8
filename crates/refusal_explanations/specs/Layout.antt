-- What is wrong, and under it the line with a caret under one of its bytes.
use Rattle.std.specs.Prelude.{ℕ, ◌+◌, nat_lt, ◌==◌, if◌then◌else◌, List, [], ◌∷◌, ◌++◌, length, map, take, Option, Some, None, codes}
use Rattle.std.specs.Fmt.{decimal}
use Rattle.trace_script.specs.Lines.{is_line_byte}

-- a byte as it is shown: one that no line has is a `?` (63)
abbrev pub shown_byte : ℕ → ℕ
shown_byte b = if is_line_byte b then b else 63

abbrev pub shown_bytes : List ℕ → List ℕ
shown_bytes bytes = map shown_byte bytes

-- a line as it is shown; of one with more bytes than a line may have, its beginning
unfoldable pub shown_line : List ℕ → List ℕ
shown_line line = if nat_lt 4096 (length line) then shown_bytes (take 72 line) ++ codes " .." else shown_bytes line

-- what stands under a byte before the caret: a tab (9) under a tab, else a space
abbrev pub pad_byte : ℕ → ℕ
pad_byte b = if b == 9 then 9 else 32

-- the caret under a byte of the line, two bytes from the left as the line is
unfoldable pub pointer : List ℕ → Option ℕ → List ℕ
pointer line None = []
pointer line (Some at) = codes "  " ++ map pad_byte (take at line) ++ codes "^\n"

-- the column of the byte above the caret, from 1: one more than the bytes before it
unfoldable pub column : List ℕ → Option ℕ → List ℕ
column line None = []
column line (Some at) = codes ":" ++ decimal (length (take at line) + 1)

-- what was meant, if anything was
unfoldable pub meant_line : List ℕ → List ℕ
meant_line [] = []
meant_line (b ∷ bs) = codes "  did you mean `" ++ shown_bytes (b ∷ bs) ++ codes "`?\n"

-- `SCRIPT:LINE:COLUMN: NAME: words`, which is one line whatever the words are; the script's line, the caret, and what was meant
unfoldable pub shown : List ℕ → ℕ → List ℕ → Option ℕ → List ℕ → List ℕ → List ℕ → List ℕ
shown script number line caret name words meant =
    shown_bytes script ++ codes ":" ++ decimal number ++ column line caret ++ codes ": " ++ name ++ codes ": " ++ shown_bytes words ++ codes "\n  "
    ++ shown_line line ++ codes "\n" ++ pointer line caret ++ meant_line meant
