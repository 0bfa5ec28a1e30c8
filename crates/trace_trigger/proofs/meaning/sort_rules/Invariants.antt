use Rattle.std.proofs.Common.{◌≡◌, ◌≤◌, ◌+◌, ◌-◌, length, map, take, vec_len, vec_capacity}
use Rattle.trace_trigger.specs.HistMeanings.{sort_rule}
use Rattle.trace_trigger.specs.HistSpecs.{key_names}
use Rattle.trace_trigger.proofs.meaning.sort_rules.Given as goal

abbrev pub invariant-loop-key : goal.invariant-loop-key
invariant-loop-key l = record {
  room : vec_len l.rules + (length l.sort - l.key-index) ≤ vec_capacity l.rules;
  filled : l.rules.items ≡ map (sort_rule (key_names l.keys) l.values) (take l.key-index l.sort);
}
