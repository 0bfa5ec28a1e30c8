use Rattle.std.proofs.Common.{◌≡◌, ◌≤◌, ◌+◌, ◌-◌, length, vec_len, vec_capacity}
use Rattle.trace_trigger.specs.HistMeanings.{each, key_in}
use Rattle.trace_trigger.proofs.EachLemmas.{each_from}
use Rattle.trace_trigger.proofs.meaning.keys_of.Given as goal

abbrev pub invariant-loop-key : goal.invariant-loop-key
invariant-loop-key l = record {
  room : vec_len l.read + (length l.keys - l.key-index) ≤ vec_capacity l.read;
  filled : each (key_in l.fields) l.keys ≡ each_from (key_in l.fields) l.keys l.key-index l.read.items;
}
