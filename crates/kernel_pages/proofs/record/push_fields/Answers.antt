use Rattle.std.proofs.Common.{arith}
use Rattle.trace_format.proofs.LoopLemmas.{left}
use Rattle.kernel_pages.proofs.FormatLemmas.{data_more}
use Rattle.kernel_pages.proofs.record.push_fields.Goals as goal

pub loop-field-preserved : goal.loop-field-preserved
loop-field-preserved c =
    let first = left c.args.fields.now c.loop-field.field-index c.field-item.result c.loop-field-test.true c.field-item.is in
    record {
      written = data_more c.loop-field.at c.start_of-start.result c.size-size.result c.field-item.result _ _ _ _ _ _ _ _ first c.start_of-start.ensures.value c.size-size.ensures.size c.in_ok-push_zeros.ensures c.in_ok-push_filled.ensures c.rest_after-rest.ensures c.loop-field.invariant.written;
      small = omega (arith, c.size-size.ensures.bound, c.loop-field.invariant.small);
    }
