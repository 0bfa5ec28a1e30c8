use Rattle.std.proofs.Common.{◌≡◌, ◌≤◌, ◌+◌, ◌-◌, length, map, take, vec_len, vec_capacity}
use Rattle.hist_entries.specs.KeptEntries.{datum_in, key_of}
use Rattle.hist_entries.proofs.entries.kept_key.Given as goal

abbrev pub invariant-loop-key : goal.invariant-loop-key
invariant-loop-key l = record {
  room : vec_len l.cells + (length l.keys - l.key-index) ≤ vec_capacity l.cells;
  filled : map datum_in l.cells.items ≡ key_of (take l.key-index l.keys) l.emission;
}
