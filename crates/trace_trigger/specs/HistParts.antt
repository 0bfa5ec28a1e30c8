-- The parts of a trigger string (histogram.rst, "hist triggers"): `hist:` or `!hist:`, attributes up to the first blank, and after them perhaps
-- `if` and a filter.
use Rattle.std.specs.Prelude.{ℕ, ◌+◌, ◌-◌, Bool, ◌&&◌, nat_lt, if◌then◌else◌, bytes_eq, codes, List, length, take, drop, Option, None, Some}
use Rattle.std.specs.List.{prefix_len}
use Rattle.trace_lex.specs.Blanks.{is_blank}
use Rattle.trace_trigger.specs.Frames.{is_unblank, after_blanks}
use Rattle.trace_trigger.specs.declared.attribute.Attribute.{Attribute}
use Rattle.trace_trigger.specs.HistAttributes.{attributes_at}

-- the offset of what follows `hist:` or `!hist:`
abbrev pub start_of : List ℕ → ℕ
start_of text = if bytes_eq (take 1 text) (codes "!") then 6 else 5

abbrev pub body_of : List ℕ → List ℕ
body_of text = drop (start_of text) text

-- the attributes are all that comes before the first blank
abbrev pub word_len : List ℕ → ℕ
word_len body = prefix_len is_unblank body

abbrev pub word_of : List ℕ → List ℕ
word_of text = take (word_len (body_of text)) (body_of text)

unfoldable pub attributes_of : List ℕ → List Attribute
attributes_of text = attributes_at (start_of text) (word_of text)

-- the offset of the first word's end
abbrev pub end_of : List ℕ → ℕ
end_of text = start_of text + word_len (body_of text)

-- what follows the first word and blanks after it
unfoldable pub tail_of : List ℕ → List ℕ
tail_of text = after_blanks (drop (word_len (body_of text)) (body_of text))

-- `if`, blanks, and something after them
abbrev pub is_condition : List ℕ → Bool
is_condition tail = (bytes_eq (take 2 tail) (codes "if") && nat_lt 0 (prefix_len is_blank (drop 2 tail)))
    && nat_lt 0 (length (after_blanks (drop 2 tail)))

-- the filter's text, if there is one
abbrev pub condition_of : List ℕ → Option (List ℕ)
condition_of tail = if is_condition tail then Some (after_blanks (drop 2 tail)) else None

-- the offset at which a string's end begins
abbrev pub offset_in : List ℕ → List ℕ → ℕ
offset_in text end = length text - length end
