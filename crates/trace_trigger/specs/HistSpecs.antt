-- What a hist trigger says, as callers see it (histogram.rst, "hist triggers").
use Rattle.std.specs.Prelude.{ℕ, List, map, Option}
use Rattle.trace_format.specs.declared.operand.Operand.{Operand}
use Rattle.trace_filter.specs.Filters.{Parsed}
use Rattle.trace_format.specs.declared.key.Key.{Key}
use Rattle.trace_trigger.specs.declared.spec.Action.{Action}
use Rattle.trace_trigger.specs.declared.spec.SortKey.{SortKey}
use Rattle.trace_format.specs.declared.sort_rule.SortRule.{SortRule}

-- keys as written
abbrev pub written_of : List Key → List (List ℕ)
written_of keys = map (λ (key : Key). key.written) keys

-- and their names
abbrev pub key_names : List Key → List (List ℕ)
key_names keys = map (λ (key : Key). key.name) keys

-- its table's name, if it has one; its keys; its values, without `hitcount`, and what is sorted by, as written; how many entries there may be; what
-- is asked for; its filter. And what the values mean in the trigger's event, and what the entries are sorted by.
pub record SpecSeen : Type 0 where
  pub name : Option (List ℕ)
  pub keys : List Key
  pub values : List (List ℕ)
  pub sort : List SortKey
  pub size : ℕ
  pub action : Action
  pub filter : Option Parsed
  pub value_sources : List Operand
  pub sort_sources : List SortRule
