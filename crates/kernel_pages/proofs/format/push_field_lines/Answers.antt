use Rattle.std.proofs.Common.{arith}
use Rattle.trace_format.proofs.LoopLemmas.{left}
use Rattle.kernel_pages.proofs.FormatLemmas.{line_more}
use Rattle.kernel_pages.proofs.format.push_field_lines.Goals as goal

pub loop-field-preserved : goal.loop-field-preserved
loop-field-preserved c =
    let first = left c.args.fields.now c.loop-field.field-index c.field-item.result c.loop-field-test.true c.field-item.is in
    record {
      lines = line_more c.loop-field.at c.start_of-start.result c.size.result c.field-item.result _ _ _ _ _ first c.start_of-start.ensures.value c.size.ensures.size c.in_ok-push_field_line.ensures c.loop-field.invariant.lines;
      small = omega (arith, c.size.ensures.bound, c.loop-field.invariant.small);
    }
