use Rattle.std.proofs.Common.{ap, map}
use Rattle.std.proofs.lemmas.List.{drop_more}
use Rattle.trace_buffer.specs.CpuReadings.{taken_reading}
use Rattle.record_text.specs.BufferText.{taken_lines}
use Rattle.record_text.proofs.LoopLemmas.{one_more}
use Rattle.record_text.proofs.pipe.push_taken.Goals as goal

pub loop-record-preserved : goal.loop-record-preserved
loop-record-preserved c =
    let first = ap (map taken_reading) (drop_more c.args.taken.now c.loop-record.record-index _ c.loop-record-test.true) in
    one_more (taken_lines c.args.catalog.now) _ _ _ _ _ _ first c.in_ok-push_taken_lines.ensures c.loop-record.invariant
