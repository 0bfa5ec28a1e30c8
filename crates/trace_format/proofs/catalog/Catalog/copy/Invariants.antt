use Rattle.std.proofs.Common.{◌≡◌, ◌≤◌, length, take}
use Rattle.trace_format.proofs.catalog.Catalog.copy.Given as goal

abbrev pub invariant-loop-index : goal.invariant-loop-index
invariant-loop-index l = record {
  copied : l.copy ≡ take l.index l.self;
  end : l.index-end ≡ length l.self;
  few : length l.self ≤ 64;
}
