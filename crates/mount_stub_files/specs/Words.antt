-- The words of a write, as a kernel takes them: separated by spaces, tabs or newlines (trace_get_user).
use Rattle.std.specs.Prelude.{ℕ, ◌+◌, ◌==◌, Bool, not, ◌||◌, if◌then◌else◌, List, [], length, take, drop, min}
use Rattle.std.specs.List.{list_all, prefix_len}

abbrev pub is_space : ℕ → Bool
is_space b = b == 32 || b == 9 || b == 10

abbrev pub is_no_space : ℕ → Bool
is_no_space b = not (is_space b)

-- without the spaces that come first
abbrev pub from_word : List ℕ → List ℕ
from_word bytes = drop (prefix_len is_space bytes) bytes

-- the first word; empty, if there is none
abbrev pub first_word : List ℕ → List ℕ
first_word bytes = take (prefix_len is_no_space (from_word bytes)) (from_word bytes)

-- how many bytes it has with the spaces before it and one after it, if one follows
abbrev pub word_size : List ℕ → ℕ
word_size bytes = min (length bytes) (prefix_len is_space bytes + prefix_len is_no_space (from_word bytes) + 1)

-- the word, if there is exactly one; else nothing
abbrev pub only_word : List ℕ → List ℕ
only_word bytes = if list_all is_space (drop (word_size bytes) bytes) then first_word bytes else []
