-- The attributes of a hist trigger (histogram.rst, "hist triggers"): what stands between the `:` of its first word.
use Rattle.std.specs.Prelude.{ℕ, ◌+◌, ◌^◌, ◌<◌, Bool, ◌||◌, nat_lt, if◌then◌else◌, bytes_eq, codes, List, length, map, take, drop}
use Rattle.std.specs.List.{prefix_len}
use Rattle.trace_lex.specs.Prefixes.{is_not}
use Rattle.trace_trigger.specs.declared.spec.Action.TheVariants.{Pause, Continue, Clear}
use Rattle.trace_trigger.specs.declared.attribute.Topic.{Topic}
use Rattle.trace_trigger.specs.declared.attribute.Topic.TheVariants.{Keys, Values, Sort, Size, Name, Asked, Unknown}
use Rattle.trace_trigger.specs.declared.attribute.Attribute.{Attribute}
use Rattle.trace_trigger.specs.declared.piece.ListItem.{ListItem}
use Rattle.trace_trigger.specs.HistPieces.{pieces_of}

-- the head of an attribute ends with the first `=` (61); without one it is all
abbrev pub head_len : List ℕ → ℕ
head_len written = if nat_lt (prefix_len (is_not 61) written) (length written)
    then prefix_len (is_not 61) written + 1 else prefix_len (is_not 61) written

-- attributes without a value
abbrev pub asked_by : List ℕ → Topic
asked_by head = if bytes_eq head (codes "pause") then Asked Pause
    else if bytes_eq head (codes "continue") || bytes_eq head (codes "cont") then Asked Continue
    else if bytes_eq head (codes "clear") then Asked Clear
    else Unknown

abbrev pub is_values : List ℕ → Bool
is_values head = (bytes_eq head (codes "values=") || bytes_eq head (codes "vals=")) || bytes_eq head (codes "val=")

-- what an attribute with this head is about
abbrev pub topic_of : List ℕ → Topic
topic_of head = if bytes_eq head (codes "keys=") || bytes_eq head (codes "key=") then Keys else if is_values head then Values
    else if bytes_eq head (codes "sort=") then Sort
    else if bytes_eq head (codes "size=") then Size
    else if bytes_eq head (codes "name=") then Name
    else asked_by head

-- an attribute is at the offset of its first byte; its value is what follows the head
abbrev pub attribute_of : ListItem → Attribute
attribute_of piece = record {
  at = piece.at;
  topic = topic_of (take (head_len piece.bytes) piece.bytes);
  skip = head_len piece.bytes;
  value = drop (head_len piece.bytes) piece.bytes;
}

-- the attributes of a string that begins at an offset, separated by `:` (58)
abbrev pub attributes_at : ℕ → List ℕ → List Attribute
attributes_at at text = map attribute_of (pieces_of 58 at text)

-- an attribute's value ends at an offset of the program
abbrev pub IsLocated : Attribute → Type 0
IsLocated attribute = attribute.at + attribute.skip + length attribute.value < 2 ^ 64
