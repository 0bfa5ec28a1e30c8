-- The offsets of mistakes alone, and the least of them.
use Rattle.std.specs.Prelude.{ℕ, ◌+◌, Bool, not, ◌&&◌, nat_lt, if◌then◌else◌, List, [], ◌∷◌, ◌++◌, length, map, min, Option, None, Some}
use Rattle.trace_trigger.specs.declared.attribute.Attribute.{Attribute}
use Rattle.trace_trigger.specs.declared.piece.ListItem.{ListItem}
use Rattle.trace_trigger.specs.HistParts.{attributes_of, end_of, tail_of, is_condition, offset_in}
use Rattle.trace_trigger.specs.HistLists.{Lists, lists_of}
use Rattle.trace_trigger.specs.HistOffsets.{is_wrong_attribute, is_bad_name, is_wrong_key, is_wrong_value, is_wrong_sort}

-- the elements of a list that are wrong, each judged by those before it and by itself
abbrev pub wrong_after : {X : Type 0} → (List X → X → Bool) → List X → List X → List X
wrong_after is_wrong before [] = []
wrong_after is_wrong before (x ∷ xs) = if is_wrong before x
    then x ∷ wrong_after is_wrong (before ++ x ∷ []) xs
    else wrong_after is_wrong (before ++ x ∷ []) xs

unfoldable pub attribute_offsets : List Attribute → List ℕ
attribute_offsets attributes = map (λ (attribute : Attribute). attribute.at) (wrong_after is_wrong_attribute [] attributes)

unfoldable pub name_offsets : List Attribute → List ℕ
name_offsets attributes = map (λ (attribute : Attribute). attribute.at + attribute.skip) (wrong_after (λ before attribute. is_bad_name attribute) [] attributes)

unfoldable pub key_offsets : List ListItem → List ℕ
key_offsets keys = map (λ (item : ListItem). item.at) (wrong_after is_wrong_key [] keys)

unfoldable pub value_offsets : List ListItem → List ℕ
value_offsets values = map (λ (item : ListItem). item.at) (wrong_after is_wrong_value [] values)

unfoldable pub sort_offsets : Lists → List ℕ
sort_offsets lists = map (λ (item : ListItem). item.at) (wrong_after (is_wrong_sort lists) [] lists.sort)

abbrev pub keyless_offsets : ℕ → List ListItem → List ℕ
keyless_offsets end [] = end ∷ []
keyless_offsets end (key ∷ keys) = []

abbrev pub tail_offsets : List ℕ → List ℕ → List ℕ
tail_offsets text tail = if nat_lt 0 (length tail) && not (is_condition tail) then offset_in text tail ∷ [] else []

abbrev pub list_offsets : Lists → List ℕ
list_offsets lists = key_offsets lists.keys ++ value_offsets lists.values ++ sort_offsets lists

unfoldable pub wrong_offsets : List ℕ → List ℕ
wrong_offsets text = attribute_offsets (attributes_of text)
    ++ name_offsets (attributes_of text)
    ++ list_offsets (lists_of (attributes_of text))
    ++ keyless_offsets (end_of text) (lists_of (attributes_of text)).keys
    ++ tail_offsets text (tail_of text)

abbrev pub earlier : Option ℕ → Option ℕ → Option ℕ
earlier None right = right
earlier (Some left) None = Some left
earlier (Some left) (Some right) = Some (min left right)

abbrev pub least : List ℕ → Option ℕ
least [] = None
least (offset ∷ offsets) = earlier (Some offset) (least offsets)
