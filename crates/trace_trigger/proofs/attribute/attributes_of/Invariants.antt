use Rattle.std.proofs.Common.{◌≡◌, ◌≤◌, ◌+◌, ◌-◌, length, map, take, vec_len, vec_capacity}
use Rattle.trace_trigger.specs.HistAttributes.{attribute_of}
use Rattle.trace_trigger.proofs.attribute.attributes_of.Given as goal

abbrev pub invariant-loop-piece : goal.invariant-loop-piece
invariant-loop-piece l = record {
  room : vec_len l.found + (length l.pieces - l.piece-index) ≤ vec_capacity l.found;
  filled : l.found.items ≡ map attribute_of (take l.piece-index l.pieces);
}
