use Rattle.std.proofs.Common.{◌≡◌, ◌≤◌, ◌+◌, ◌-◌, length, vec_len, vec_capacity}
use Rattle.trace_trigger.specs.HistMeanings.{each, value_source}
use Rattle.trace_trigger.proofs.EachLemmas.{each_from}
use Rattle.trace_trigger.proofs.meaning.value_sources.Given as goal

abbrev pub invariant-loop-value : goal.invariant-loop-value
invariant-loop-value l = record {
  room : vec_len l.sources + (length l.values - l.value-index) ≤ vec_capacity l.sources;
  filled : each (value_source l.fields) l.values ≡ each_from (value_source l.fields) l.values l.value-index l.sources.items;
}
