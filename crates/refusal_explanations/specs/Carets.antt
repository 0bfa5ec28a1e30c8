-- Which byte of a script's line is a byte of what it writes, and where its words begin.
use Rattle.std.specs.Prelude.{ℕ, ◌+◌, Bool, true, false, not, ◌&&◌, ◌||◌, ◌==◌, if◌then◌else◌, List, [], ◌∷◌, ◌++◌, drop, find, slice_get, Option}
use Rattle.trace_lex.specs.Blanks.{is_blank}
use Rattle.trace_script.specs.Tokens.{is_end, is_quote}
use Rattle.refusal_explanations.specs.declared.caret.Stand.{Stand}
use Rattle.refusal_explanations.specs.declared.caret.Stand.TheVariants.{Between, InWord, InQuotes}

-- where a byte leads
abbrev pub next_stand : Stand → ℕ → Stand
next_stand (InQuotes quote) b = if b == quote then InWord else InQuotes quote
next_stand _ b = if is_end b then Between else (if is_quote b then InQuotes b else InWord)

-- where a word that is open then ends, if it goes on with it; it ended at `end` so far, and the byte stands at `at`
abbrev pub next_end : Stand → ℕ → ℕ → ℕ → ℕ
next_end (InQuotes quote) end at b = if b == quote then end else at + 1
next_end _ end at b = if is_end b then end else at + 1

-- a word is open and ends before it
abbrev pub ends_at : Stand → ℕ → Bool
ends_at InWord b = is_end b
ends_at _ b = false

-- it has an offset: in quotes each but the one that closes them, else each but blanks and quotes
abbrev pub has_offset : Stand → ℕ → Bool
has_offset (InQuotes quote) b = not (b == quote)
has_offset _ b = not (is_blank b || is_quote b)

abbrev pub one_if : Bool → ℕ → List ℕ
one_if is_there at = if is_there then at ∷ [] else []

-- the offsets of the rest of a line, which begins at `at`; a word that is open ended at `end` so far. The line's end is as a blank (32)
abbrev pub offsets_from : Stand → ℕ → ℕ → List ℕ → List ℕ
offsets_from stand end at [] = one_if (ends_at stand 32) end
offsets_from stand end at (b ∷ bs) =
    one_if (ends_at stand b) end ++ (one_if (has_offset stand b) at ++ offsets_from (next_stand stand b) (next_end stand end at b) (at + 1) bs)

-- the offsets of a line: for each byte of each word where it stands, without the quotes around it, and after each word where the word ends;
-- and where each `>` stands
unfoldable pub offsets_of : List ℕ → List ℕ
offsets_of line = offsets_from Between 0 0 line

-- where byte `at` of what an `echo` writes stands. The four bytes of `echo` and their end come before the first; a space between two words
-- stands where the first of them ends, and so does the end of what is written.
abbrev pub written_offset : List ℕ → ℕ → Option ℕ
written_offset line at = slice_get (drop 5 (offsets_of line)) at

-- ---- words

-- a word, or a `>` (62), begins at a byte
abbrev pub begins_word : Stand → ℕ → Bool
begins_word Between b = not (is_blank b)
begins_word InWord b = b == 62
begins_word (InQuotes quote) b = false

-- where these begin in the rest of a line, which begins at `at`
abbrev pub starts_from : Stand → ℕ → List ℕ → List ℕ
starts_from stand at [] = []
starts_from stand at (b ∷ bs) = one_if (begins_word stand b) at ++ starts_from (next_stand stand b) (at + 1) bs

unfoldable pub starts_of : List ℕ → List ℕ
starts_of line = starts_from Between 0 line

-- where the word of this index begins; in the line of an emission the pair of this index, whose pairs are its fifth word and those after it
abbrev pub word_at : List ℕ → ℕ → Option ℕ
word_at line index = slice_get (starts_of line) index

abbrev pub pair_offset : List ℕ → ℕ → Option ℕ
pair_offset line index = slice_get (drop 4 (starts_of line)) index

-- a word ends before a byte, or it is a `>` alone
abbrev pub stops_before : Stand → ℕ → Bool
stops_before (InQuotes quote) b = false
stops_before _ b = is_end b

-- the word that begins a string, or goes on with it, has no `=` (61) there, in quotes or not
unfoldable pub is_bare_from : Stand → List ℕ → Bool
is_bare_from stand [] = true
is_bare_from stand (b ∷ bs) = if stops_before stand b then true else (not (b == 61) && is_bare_from (next_stand stand b) bs)

abbrev pub is_bare : List ℕ → Bool
is_bare text = is_bare_from Between text

-- where the first such word begins
abbrev pub first_bare : List ℕ → Option ℕ
first_bare line = find (λ at. is_bare (drop at line)) (starts_of line)
