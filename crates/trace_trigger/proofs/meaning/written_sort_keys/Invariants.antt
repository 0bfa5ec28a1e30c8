use Rattle.std.proofs.Common.{◌≡◌, ◌≤◌, ◌+◌, ◌-◌, length, map, take, vec_len, vec_capacity}
use Rattle.trace_trigger.specs.HistLists.{sort_key_of}
use Rattle.trace_trigger.proofs.meaning.written_sort_keys.Given as goal

abbrev pub invariant-loop-item : goal.invariant-loop-item
invariant-loop-item l = record {
  room : vec_len l.keys + (length l.items - l.item-index) ≤ vec_capacity l.keys;
  filled : l.keys.items ≡ map sort_key_of (take l.item-index l.items);
}
