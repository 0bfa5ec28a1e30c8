-- What the lists of a hist trigger mean in an event, once `hitcount` is no more among its values.
use Rattle.std.specs.Prelude.{ℕ, List, map, Option, Result, Ok}
use Rattle.trace_format.specs.Definitions.{Definition}
use Rattle.trace_format.specs.declared.operand.Operand.{Operand}
use Rattle.trace_filter.specs.Filters.{Parsed}
use Rattle.trace_trigger.specs.declared.fault.TriggerFault.{TriggerFault}
use Rattle.trace_format.specs.declared.key.Key.{Key}
use Rattle.trace_format.specs.declared.sort_rule.SortRule.{SortRule}
use Rattle.trace_trigger.specs.declared.spec.SortKey.{SortKey}
use Rattle.trace_trigger.specs.HistSpecs.{SpecSeen, key_names}
use Rattle.trace_trigger.specs.Frames.{filter_of}
use Rattle.trace_trigger.specs.TriggerAnswers.{◌>>=◌}
use Rattle.trace_trigger.specs.HistLists.{Lists, names_of, sort_keys, summed_items}
use Rattle.trace_trigger.specs.HistMeanings.{each, key_in, value_source, size_of, sort_rule}

pub record Meant : Type 0 where
  pub keys : List Key
  pub value_sources : List Operand
  pub size : ℕ
  pub filter : Option Parsed

unfoldable pub meaning_of : Definition → List ℕ → Option (List ℕ) → Lists → Result Meant TriggerFault
meaning_of definition text condition lists =
    each (key_in definition.fields) lists.keys >>= λ keys.
    each (value_source definition.fields) lists.values >>= λ sources.
    size_of lists.size >>= λ size.
    filter_of definition text condition >>= λ only_if. Ok (record { keys = keys; value_sources = sources; size = size; filter = only_if })

-- the same lists, with no `hitcount` among the values
abbrev pub summed : Lists → Lists
summed lists = record lists { values = summed_items lists.values }

-- ---- the trigger

abbrev pub spec_of_parts : Lists → Meant → List (List ℕ) → List SortKey → List SortRule → SpecSeen
spec_of_parts lists meant values sort sort_sources = record {
  name = lists.name;
  keys = meant.keys;
  values = values;
  sort = sort;
  size = meant.size;
  action = lists.action;
  filter = meant.filter;
  value_sources = meant.value_sources;
  sort_sources = sort_sources;
}

-- what each sort key means
abbrev pub rules_of : List Key → Lists → List SortRule
rules_of keys lists = map (sort_rule (key_names keys) (names_of lists.values)) (sort_keys lists.sort)

abbrev pub spec_with : Lists → Meant → SpecSeen
spec_with lists meant = spec_of_parts lists meant (names_of lists.values) (sort_keys lists.sort) (rules_of meant.keys lists)
