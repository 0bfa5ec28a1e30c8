use Rattle.std.proofs.Common.{rules}
use Rattle.std.proofs.lemmas.List.Sorted.{answers_always, IsNonDecreasingBy-from_sort}
use Rattle.trace_record.specs.Record.{timestamp}
use Rattle.trace_buffer.specs.CpuReadings.{kept_reading}
use Rattle.trace_buffer.proofs.Merges.{by_timestamp-from_sort}
use Rattle.trace_buffer.proofs.merge.sort_by_time.Goals as goal

pub returns : goal.returns
returns c =
    let keys = answers_always _ _ _ (λ f a r next called. search rules) in
    by_timestamp-from_sort kept_reading _ _
    (IsNonDecreasingBy-from_sort (λ p. timestamp (kept_reading p).rec) _ (c.in_ok-sort_by_key.ensures.sorted (λ p. timestamp (kept_reading p).rec) keys))
    (c.in_ok-sort_by_key.ensures.stable (λ p. timestamp (kept_reading p).rec) keys)
