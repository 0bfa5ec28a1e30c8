use Rattle.std.proofs.Common.{◌≡◌, ◌++◌, drop}
use Rattle.command_log.specs.EntryEncoding.{pairs_bytes, ArePairsShort}
use Rattle.command_log.proofs.chunk.Chunk.write_pairs.Given as goal

-- what is written, and what the pairs that are left add to it
abbrev pub invariant-loop-pair : goal.invariant-loop-pair
invariant-loop-pair l = record {
  entries : l.self.entries ≡ l.initial.self.entries;
  ahead : l.self.ahead ++ pairs_bytes (drop l.pair-index l.pairs) ≡ l.initial.self.ahead ++ pairs_bytes l.pairs;
  short : ArePairsShort (drop l.pair-index l.pairs) → ArePairsShort l.pairs;
}
