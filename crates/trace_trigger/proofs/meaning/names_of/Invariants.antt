use Rattle.std.proofs.Common.{◌≡◌, ◌≤◌, ◌+◌, ◌-◌, length, map, take, vec_len, vec_capacity}
use Rattle.trace_trigger.specs.declared.piece.ListItem.{ListItem}
use Rattle.trace_trigger.proofs.meaning.names_of.Given as goal

abbrev pub invariant-loop-item : goal.invariant-loop-item
invariant-loop-item l = record {
  room : vec_len l.names + (length l.items - l.item-index) ≤ vec_capacity l.names;
  filled : l.names.items ≡ map (λ (item : ListItem). item.bytes) (take l.item-index l.items);
}
