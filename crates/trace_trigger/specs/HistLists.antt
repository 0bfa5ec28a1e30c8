-- What the attributes of a hist trigger say (histogram.rst, "hist triggers"): the name of its table, lists of names, a size, and what is asked for. Of
-- several attributes on one topic the first counts.
use Rattle.std.specs.Prelude.{ℕ, ◌+◌, Bool, true, false, ◌&&◌, ◌||◌, bytes_eq, codes, List, [], ◌∷◌, map, take, drop, filter, not, Option, None, Some, option_map}
use Rattle.std.specs.List.{find, list_any, prefix_len}
use Rattle.trace_lex.specs.Prefixes.{is_not}
use Rattle.trace_lex.specs.Names.{is_name}
use Rattle.trace_trigger.specs.declared.spec.Action.{Action}
use Rattle.trace_trigger.specs.declared.spec.Action.TheVariants.{Attach}
use Rattle.trace_trigger.specs.declared.spec.SortKey.{SortKey}
use Rattle.trace_trigger.specs.declared.attribute.Topic.{Topic}
use Rattle.trace_trigger.specs.declared.attribute.Topic.TheVariants.{Keys, Values, Sort, Size, Name, Asked, Unknown}
use Rattle.trace_trigger.specs.declared.attribute.Attribute.{Attribute}
use Rattle.trace_trigger.specs.declared.piece.ListItem.{ListItem}
use Rattle.trace_trigger.specs.HistPieces.{pieces_of}

-- ---- attributes by topic

-- `pause`, `continue` and `clear` are one topic
abbrev pub is_same_topic : Topic → Topic → Bool
is_same_topic Keys Keys = true
is_same_topic Values Values = true
is_same_topic Sort Sort = true
is_same_topic Size Size = true
is_same_topic Name Name = true
is_same_topic (Asked left) (Asked right) = true
is_same_topic left right = false

abbrev pub first_about : Topic → List Attribute → Option Attribute
first_about topic attributes = find (λ (attribute : Attribute). is_same_topic topic attribute.topic) attributes

-- the items of a list, separated by `,` (44), each with its offset
abbrev pub items_of : Attribute → List ListItem
items_of attribute = pieces_of 44 (attribute.at + attribute.skip) attribute.value

-- none without an attribute; an attribute has one item at least, perhaps an empty one
abbrev pub items_in : Option Attribute → List ListItem
items_in None = []
items_in (Some attribute) = items_of attribute

-- the value of an attribute
abbrev pub value_of : Option Attribute → Option (List ℕ)
value_of attribute = option_map (λ (found : Attribute). found.value) attribute

abbrev pub asked_for : Topic → Action
asked_for (Asked action) = action
asked_for Keys = Attach
asked_for Values = Attach
asked_for Sort = Attach
asked_for Size = Attach
asked_for Name = Attach
asked_for Unknown = Attach

abbrev pub action_in : Option Attribute → Action
action_in None = Attach
action_in (Some attribute) = asked_for attribute.topic

-- ---- all of them

pub record Lists : Type 0 where
  pub name : Option (List ℕ)
  pub keys : List ListItem
  pub values : List ListItem
  pub sort : List ListItem
  pub size : Option (List ℕ)
  pub action : Action

unfoldable pub lists_of : List Attribute → Lists
lists_of attributes = record {
  name = value_of (first_about Name attributes);
  keys = items_in (first_about Keys attributes);
  values = items_in (first_about Values attributes);
  sort = items_in (first_about Sort attributes);
  size = value_of (first_about Size attributes);
  action = action_in (first_about (Asked Attach) attributes);
}

-- ---- names

abbrev pub names_of : List ListItem → List (List ℕ)
names_of items = map (λ (item : ListItem). item.bytes) items

-- whether an item is this name
abbrev pub is_listed : List ListItem → List ℕ → Bool
is_listed items name = list_any (λ (item : ListItem). bytes_eq name item.bytes) items

abbrev pub is_hitcount : List ℕ → Bool
is_hitcount name = bytes_eq name (codes "hitcount")

-- the values that are summed: `hitcount` may be written among them, and is there anyway
abbrev pub summed_items : List ListItem → List ListItem
summed_items items = filter (λ (item : ListItem). not (is_hitcount item.bytes)) items

-- ---- names with a suffix

-- the name of a key or of a sort key comes before the first `.` (46)
abbrev pub item_name : List ℕ → List ℕ
item_name written = take (prefix_len (is_not 46) written) written

-- and what follows is a modifier or a direction
abbrev pub item_suffix : List ℕ → List ℕ
item_suffix written = drop (prefix_len (is_not 46) written) written

-- whether an item has this name, with whatever suffix
abbrev pub is_named : List ListItem → List ℕ → Bool
is_named items name = list_any (λ (item : ListItem). bytes_eq name (item_name item.bytes)) items

-- ---- sort keys

abbrev pub is_descending : List ℕ → Bool
is_descending suffix = bytes_eq suffix (codes ".descending")

abbrev pub is_direction : List ℕ → Bool
is_direction suffix = (bytes_eq suffix [] || bytes_eq suffix (codes ".ascending")) || is_descending suffix

abbrev pub sort_key_of : ListItem → SortKey
sort_key_of item = record { name = item_name item.bytes; descending = is_descending (item_suffix item.bytes) }

-- by `hitcount` where nothing else is said
abbrev pub sort_keys : List ListItem → List SortKey
sort_keys [] = record { name = codes "hitcount"; descending = false } ∷ []
sort_keys (item ∷ items) = map sort_key_of (item ∷ items)

-- what may be sorted by: `hitcount`, the names of the keys, and the values
abbrev pub is_sortable : Lists → List ℕ → Bool
is_sortable lists name = is_hitcount name
    || (is_name name && (is_named lists.keys name || is_listed lists.values name))
