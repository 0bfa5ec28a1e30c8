-- Where a trigger string breaks the grammar, and what is wrong there (histogram.rst, "hist triggers"). The leftmost mistake is told.
use Rattle.std.specs.Prelude.{ℕ, ◌+◌, Bool, true, false, not, ◌&&◌, ◌||◌, ◌==◌, nat_lt, if◌then◌else◌, List, [], ◌∷◌, ◌++◌, length, Option, None, Some}
use Rattle.std.specs.Option.{is_none}
use Rattle.std.specs.List.{list_any}
use Rattle.trace_lex.specs.Names.{is_name}
use Rattle.trace_lex.specs.Decimals.{decimal_number}
use Rattle.trace_trigger.specs.declared.attribute.Topic.{Topic}
use Rattle.trace_trigger.specs.declared.attribute.Topic.TheVariants.{Keys, Values, Sort, Size, Name, Asked, Unknown}
use Rattle.trace_trigger.specs.declared.attribute.Attribute.{Attribute}
use Rattle.trace_trigger.specs.declared.fault.HistCause.{HistCause}
use Rattle.trace_trigger.specs.declared.fault.HistCause.TheVariants as cause
use Rattle.trace_trigger.specs.declared.offset.Mistake.{Mistake}
use Rattle.trace_trigger.specs.declared.piece.ListItem.{ListItem}
use Rattle.trace_trigger.specs.HistParts.{attributes_of, end_of, tail_of, is_condition, offset_in}
use Rattle.trace_trigger.specs.HistLists.{Lists, lists_of, is_same_topic, is_listed, is_sortable, is_named, item_name, item_suffix, is_direction}
use Rattle.trace_format.specs.Modifiers.{modifier_of}

-- what is told of the elements of a list that are wrong, each judged by those before it and by itself
abbrev pub mistakes_in : {X : Type 0} → (List X → X → Bool) → (List X → X → Mistake) → List X → List X → List Mistake
mistakes_in is_wrong mistake before [] = []
mistakes_in is_wrong mistake before (x ∷ xs) = if is_wrong before x
    then mistake before x ∷ mistakes_in is_wrong mistake (before ++ x ∷ []) xs else mistakes_in is_wrong mistake (before ++ x ∷ []) xs

-- ---- attributes

abbrev pub is_unknown : Topic → Bool
is_unknown Unknown = true
is_unknown topic = false

-- a topic that an attribute before it has
abbrev pub is_repeated : List Attribute → Attribute → Bool
is_repeated before attribute = list_any (λ (other : Attribute). is_same_topic other.topic attribute.topic) before

-- a size is written in decimal digits, one at least
abbrev pub is_bad_size : Attribute → Bool
is_bad_size attribute = is_same_topic Size attribute.topic && is_none (decimal_number attribute.value)

abbrev pub is_wrong_attribute : List Attribute → Attribute → Bool
is_wrong_attribute before attribute = (is_unknown attribute.topic || is_repeated before attribute) || is_bad_size attribute

-- why an attribute is wrong: a size, by its digits or as the second; others that are known, as the second
abbrev pub attribute_cause : Topic → HistCause
attribute_cause Unknown = cause.Unknown
attribute_cause Size = cause.Size
attribute_cause (Asked action) = cause.Action
attribute_cause Keys = cause.Repeated
attribute_cause Values = cause.Repeated
attribute_cause Sort = cause.Repeated
attribute_cause Name = cause.Repeated

abbrev pub attribute_mistake : List Attribute → Attribute → Mistake
attribute_mistake before attribute = record { at = attribute.at; cause = attribute_cause attribute.topic }

unfoldable pub attribute_mistakes : List Attribute → List Mistake
attribute_mistakes attributes = mistakes_in is_wrong_attribute attribute_mistake [] attributes

-- a name comes after `name=`
abbrev pub is_bad_name : Attribute → Bool
is_bad_name attribute = is_same_topic Name attribute.topic && not (is_name attribute.value)

-- and where it is none, it is wrong at its first byte
abbrev pub name_mistake : List Attribute → Attribute → Mistake
name_mistake before attribute = record { at = attribute.at + attribute.skip; cause = cause.Name }

unfoldable pub name_mistakes : List Attribute → List Mistake
name_mistakes attributes = mistakes_in (λ before attribute. is_bad_name attribute) name_mistake [] attributes

-- ---- items

-- an item is the first of its list if none is before it
abbrev pub is_first : List ListItem → Bool
is_first [] = true
is_first (item ∷ items) = false

-- among the keys: what has no name, another suffix than a modifier, and a name that stands in the list before, with whatever modifier
abbrev pub is_wrong_key : List ListItem → ListItem → Bool
is_wrong_key before item = (not (is_name (item_name item.bytes)) || is_none (modifier_of (item_suffix item.bytes)))
    || is_named before (item_name item.bytes)

abbrev pub key_mistake : List ListItem → ListItem → Mistake
key_mistake before item = record { at = item.at; cause = cause.Key (is_first before) }

unfoldable pub key_mistakes : List ListItem → List Mistake
key_mistakes keys = mistakes_in is_wrong_key key_mistake [] keys

-- among the values: what is no name, and a name that stands in the list before
abbrev pub is_wrong_value : List ListItem → ListItem → Bool
is_wrong_value before item = not (is_name item.bytes) || is_listed before item.bytes

abbrev pub value_mistake : List ListItem → ListItem → Mistake
value_mistake before item = record { at = item.at; cause = cause.Value (is_first before) }

unfoldable pub value_mistakes : List ListItem → List Mistake
value_mistakes values = mistakes_in is_wrong_value value_mistake [] values

-- among sort keys: what cannot be sorted by, another suffix, and a name that stands in the list before, in whatever direction
abbrev pub is_wrong_sort : Lists → List ListItem → ListItem → Bool
is_wrong_sort lists before item = (not (is_sortable lists (item_name item.bytes)) || not (is_direction (item_suffix item.bytes)))
    || is_named before (item_name item.bytes)

abbrev pub sort_mistake : List ListItem → ListItem → Mistake
sort_mistake before item = record { at = item.at; cause = cause.Sort (is_first before) }

unfoldable pub sort_mistakes : Lists → List Mistake
sort_mistakes lists = mistakes_in (is_wrong_sort lists) sort_mistake [] lists.sort

-- ---- the whole string

-- without keys the string goes wrong where its first word ends
abbrev pub keyless_mistakes : ℕ → List ListItem → List Mistake
keyless_mistakes end [] = record { at = end; cause = cause.NoKeys } ∷ []
keyless_mistakes end (key ∷ keys) = []

-- after the word: what is no condition, at its first byte
abbrev pub tail_mistakes : List ℕ → List ℕ → List Mistake
tail_mistakes text tail =
    if nat_lt 0 (length tail) && not (is_condition tail) then record { at = offset_in text tail; cause = cause.Condition } ∷ [] else []

abbrev pub list_mistakes : Lists → List Mistake
list_mistakes lists = key_mistakes lists.keys ++ value_mistakes lists.values ++ sort_mistakes lists

-- an empty last attribute or item of a string without keys is wrong where its first word ends, and comes before that in this list
unfoldable pub mistakes : List ℕ → List Mistake
mistakes text = attribute_mistakes (attributes_of text) ++ name_mistakes (attributes_of text) ++ list_mistakes (lists_of (attributes_of text))
    ++ keyless_mistakes (end_of text) (lists_of (attributes_of text)).keys ++ tail_mistakes text (tail_of text)

-- ---- the leftmost mistake

-- of two at one offset, the first that is given
abbrev pub further_left : Option Mistake → Option Mistake → Option Mistake
further_left None right = right
further_left (Some left) None = Some left
further_left (Some left) (Some right) = if nat_lt right.at left.at then Some right else Some left

abbrev pub leftmost : List Mistake → Option Mistake
leftmost [] = None
leftmost (mistake ∷ mistakes) = further_left (Some mistake) (leftmost mistakes)

-- what is told of a mistake at an offset
abbrev pub cause_at : ℕ → List Mistake → Option HistCause
cause_at at [] = None
cause_at at (mistake ∷ mistakes) = if mistake.at == at then Some mistake.cause else cause_at at mistakes

-- what is wrong at an offset of a string, if something is
abbrev pub hist_cause : List ℕ → ℕ → Option HistCause
hist_cause text at = cause_at at (mistakes text)
