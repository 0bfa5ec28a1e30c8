use Rattle.std.proofs.Common.{ap, map}
use Rattle.std.proofs.lemmas.List.{drop_more}
use Rattle.trace_buffer.specs.CpuReadings.{kept_reading}
use Rattle.record_text.specs.BufferText.{reading_line}
use Rattle.record_text.proofs.LoopLemmas.{one_more}
use Rattle.record_text.proofs.trace.push_merged.Goals as goal

pub loop-cpu-preserved : goal.loop-cpu-preserved
loop-cpu-preserved c =
    let first = ap (map kept_reading) (drop_more c.args.records.now c.loop-cpu.cpu-index _ c.loop-cpu-test.true) in
    one_more (reading_line c.args.catalog.now) _ _ _ _ _ _ first c.in_ok-push_record_line.ensures c.loop-cpu.invariant
