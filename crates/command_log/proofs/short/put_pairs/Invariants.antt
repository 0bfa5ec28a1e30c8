use Rattle.std.proofs.Common.{◌≡◌, ◌≤◌, ◌++◌, length, take, drop}
use Rattle.command_log.specs.EntryEncoding.{pairs_bytes, ArePairsShort}
use Rattle.command_log.proofs.short.put_pairs.Given as goal

-- what is written, and what the pairs that are left add to it
abbrev pub invariant-loop-pair : goal.invariant-loop-pair
invariant-loop-pair l = record {
  bytes : take l.end l.out ++ pairs_bytes (drop l.pair-index l.pairs) ≡ take l.at l.initial.out ++ pairs_bytes l.pairs;
  same : length l.out ≡ length l.initial.out;
  within : l.end ≤ length l.out;
  short : ArePairsShort (drop l.pair-index l.pairs) → ArePairsShort l.pairs;
}
