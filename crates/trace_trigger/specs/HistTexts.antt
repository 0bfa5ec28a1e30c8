-- The texts of hist triggers (histogram.rst, "hist triggers").
use Rattle.std.specs.Prelude.{◌≡◌, ◌⊎◌, ℕ, List, map, take, codes, Option, None, Some, Result, Ok, Err}
use Rattle.trace_format.specs.Definitions.{Definition}
use Rattle.trace_trigger.specs.HistSpecs.{SpecSeen, key_names}
use Rattle.trace_trigger.specs.declared.fault.TriggerFault.{TriggerFault}
use Rattle.trace_trigger.specs.declared.fault.TriggerFault.TheVariants.{HistSyntax}
use Rattle.trace_trigger.specs.declared.offset.Mistake.{Mistake}
use Rattle.trace_trigger.specs.Frames.{filter_of}
use Rattle.trace_trigger.specs.TriggerAnswers.{◌>>=◌}
use Rattle.trace_trigger.specs.HistParts.{attributes_of, tail_of, condition_of}
use Rattle.trace_trigger.specs.HistLists.{Lists, lists_of, names_of, summed_items, sort_keys}
use Rattle.trace_trigger.specs.HistOffsets.{mistakes, leftmost}
use Rattle.trace_trigger.specs.HistMeanings.{few, each, key_in, value_source, size_of, sort_rule}

-- a string that says something of a hist trigger
abbrev pub IsHistText : List ℕ → Type 0
IsHistText text = (take 5 text ≡ codes "hist:") ⊎ (take 6 text ≡ codes "!hist:")

-- ---- the grammar

abbrev pub unless_wrong : Option Mistake → Lists → Result Lists TriggerFault
unless_wrong None lists = Ok lists
unless_wrong (Some mistake) lists = Err (HistSyntax mistake.at mistake.cause)

-- what the attributes say, unless the string breaks the grammar
unfoldable pub read_of : List ℕ → Result Lists TriggerFault
read_of text = unless_wrong (leftmost (mistakes text)) (lists_of (attributes_of text))

-- ---- the whole string

-- the trigger of an event, if its attributes say this: the keys are looked up, then the values, the size and the filter
unfoldable pub spec_from : Definition → List ℕ → Lists → Result SpecSeen TriggerFault
spec_from definition text lists =
    each (key_in definition.fields) lists.keys >>= λ keys.
    each (value_source definition.fields) (summed_items lists.values) >>= λ values.
    size_of lists.size >>= λ size.
    filter_of definition text (condition_of (tail_of text)) >>= λ only_if. Ok (record {
      name = lists.name;
      keys = keys;
      values = names_of (summed_items lists.values);
      sort = sort_keys lists.sort;
      size = size;
      action = lists.action;
      filter = only_if;
      value_sources = values;
      sort_sources = map (sort_rule (key_names keys) (names_of (summed_items lists.values))) (sort_keys lists.sort);
    })

-- what a string says of a hist trigger of an event, or why it is refused
unfoldable pub spec_of : Definition → List ℕ → Result SpecSeen TriggerFault
spec_of definition text = read_of text >>= λ lists. few lists >>= λ lists. spec_from definition text lists
