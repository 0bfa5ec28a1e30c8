use Rattle.std.proofs.Common.{ap, ◌∙◌, map}
use Rattle.std.proofs.lemmas.Result.{on_ok_weaker}
use Rattle.trace_buffer.specs.CpuReadings.{kept_reading}
use Rattle.record_text.proofs.BufferLemmas.{all_copied}
use Rattle.record_text.proofs.trace_copies.push_trace_of_all.Goals as goal

pub returns : goal.returns
returns c =
    on_ok_weaker c.push_merged.result
    (λ written.
    all_copied c.args.catalog.now c.args.copy.now _ _ _ _ _ _ _ c.counts_of_all-counts.ensures.kept c.counts_of_all-counts.ensures.overrun c.cpus.ensures.cpus
    (ap (map kept_reading) c.deref.ensures.value ∙ c.in_ok-records.ensures) c.in_ok-push_trace_head.ensures written)
    c.push_merged.ensures
