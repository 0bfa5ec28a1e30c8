-- What the names of a hist trigger come to in an event, and why they may be refused there (histogram.rst, "hist triggers").
use Rattle.std.specs.Prelude.{ℕ, Bool, not, ◌&&◌, ◌||◌, nat_lt, if◌then◌else◌, bytes_eq, List, [], ◌∷◌, length, Option, None, Some, option_and_then, unwrap_or, Result, Ok, Err}
use Rattle.std.specs.List.{position}
use Rattle.trace_lex.specs.Decimals.{decimal_number}
use Rattle.trace_format.specs.declared.event.Field.{Field}
use Rattle.trace_format.specs.declared.operand.Operand.{Operand}
use Rattle.trace_format.specs.Operands.{operand_named, is_text}
use Rattle.trace_trigger.specs.declared.fault.TriggerFault.{TriggerFault}
use Rattle.trace_trigger.specs.declared.fault.TriggerFault.TheVariants.{TooManyKeys, TooManyValues, TooManySortKeys, NoSuchField, WrongOperator, BadSize}
use Rattle.trace_trigger.specs.declared.fault.OperatorCause.TheVariants.{Modified, Summed}
use Rattle.trace_format.specs.declared.key.Key.{Key}
use Rattle.trace_format.specs.declared.modifier.Modifier.TheVariants.{Plain}
use Rattle.trace_trigger.specs.declared.spec.SortKey.{SortKey}
use Rattle.trace_format.specs.declared.sort_rule.SortRule.{SortRule}
use Rattle.trace_format.specs.declared.sort_rule.SortSource.{SortSource}
use Rattle.trace_format.specs.declared.sort_rule.SortSource.TheVariants as sorted
use Rattle.trace_trigger.specs.declared.piece.ListItem.{ListItem}
use Rattle.trace_trigger.specs.TriggerAnswers.{◌>>=◌}
use Rattle.trace_trigger.specs.HistSizes.{rounded_size}
use Rattle.trace_trigger.specs.HistLists.{Lists, summed_items, is_hitcount, item_name, item_suffix}
use Rattle.trace_format.specs.Modifiers.{modifier_of}

-- ---- how many

abbrev pub summed_len : List ListItem → ℕ
summed_len values = length (summed_items values)

-- at most three keys, three values besides `hitcount`, and two sort keys
abbrev pub is_too_many : Lists → Bool
is_too_many lists = (nat_lt 3 (length lists.keys) || nat_lt 3 (summed_len lists.values)) || nat_lt 2 (length lists.sort)

-- of what there are too many: keys, or else values, or else sort keys
abbrev pub excess : Lists → TriggerFault
excess lists = if nat_lt 3 (length lists.keys) then TooManyKeys
    else if nat_lt 3 (summed_len lists.values) then TooManyValues else TooManySortKeys

abbrev pub few : Lists → Result Lists TriggerFault
few lists = if is_too_many lists then Err (excess lists) else Ok lists

-- ---- keys and values

-- what each element of a list comes to; or the fault of the first that is refused
abbrev pub each : {A B : Type 0} → (A → Result B TriggerFault) → List A → Result (List B) TriggerFault
each read [] = Ok []
each read (x ∷ xs) = read x >>= λ y. each read xs >>= λ ys. Ok (y ∷ ys)

-- a key that means this. (One with another suffix than a modifier is refused before.)
abbrev pub key_as : ListItem → Operand → Key
key_as item operand = record {
  written = item.bytes;
  name = item_name item.bytes;
  modifier = unwrap_or (modifier_of (item_suffix item.bytes)) Plain;
  operand = operand;
}

-- a key is a number or a string; one with a modifier is a number
abbrev pub key_meant : ListItem → Option Operand → Result Key TriggerFault
key_meant item None = Err (NoSuchField item.at)
key_meant item (Some operand) = if is_text operand && not (bytes_eq (item_suffix item.bytes) [])
    then Err (WrongOperator item.at Modified) else Ok (key_as item operand)

abbrev pub key_in : List Field → ListItem → Result Key TriggerFault
key_in fields item = key_meant item (operand_named fields (item_name item.bytes))

-- a value is a number
abbrev pub value_meant : ℕ → Option Operand → Result Operand TriggerFault
value_meant at None = Err (NoSuchField at)
value_meant at (Some operand) = if is_text operand then Err (WrongOperator at Summed) else Ok operand

abbrev pub value_source : List Field → ListItem → Result Operand TriggerFault
value_source fields item = value_meant item.at (operand_named fields item.bytes)

-- ---- size

abbrev pub told_size : Option ℕ → Result ℕ TriggerFault
told_size None = Err BadSize
told_size (Some size) = Ok size

abbrev pub size_written : List ℕ → Option ℕ
size_written digits = option_and_then rounded_size (decimal_number digits)

-- 2048 where nothing is said
abbrev pub size_of : Option (List ℕ) → Result ℕ TriggerFault
size_of None = Ok 2048
size_of (Some digits) = told_size (size_written digits)

-- ---- sort keys

abbrev pub index_of : List (List ℕ) → List ℕ → Option ℕ
index_of names name = position (bytes_eq name) names

-- by the index among the values, whether it is `hitcount`, and the index among the keys
abbrev pub sort_found : Option ℕ → Bool → Option ℕ → SortSource
sort_found (Some index) is_count key = sorted.Value index
sort_found None is_count key = if is_count then sorted.Hitcount else sorted.Key (unwrap_or key 0)

-- a name that is a value means the value; another is `hitcount` or a key
abbrev pub sort_source : List (List ℕ) → List (List ℕ) → List ℕ → SortSource
sort_source keys values name = sort_found (index_of values name) (is_hitcount name) (index_of keys name)

abbrev pub sort_rule : List (List ℕ) → List (List ℕ) → SortKey → SortRule
sort_rule keys values key = record { source = sort_source keys values key.name; descending = key.descending }
