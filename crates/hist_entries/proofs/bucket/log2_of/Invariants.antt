use Rattle.std.proofs.Common.{◌≡◌, ◌+◌, ◌-◌, ◌^◌, pos}
use Rattle.hist_entries.specs.Buckets.{log2_of}
use Rattle.hist_entries.proofs.BucketLemmas.{run_from}
use Rattle.hist_entries.proofs.bucket.log2_of.Given as goal

-- all powers so far are below the number
abbrev pub invariant-loop-exponent : goal.invariant-loop-exponent
invariant-loop-exponent l = record {
  power : l.power ≡ pos (2 ^ l.exponent);
  so_far : log2_of l.number ≡ l.exponent + run_from l.number l.exponent (64 - l.exponent);
}
