use Rattle.trace_format.proofs.LoopLemmas.{left}
use Rattle.record_text.proofs.LoopLemmas.{one_more}
use Rattle.kernel_pages.specs.KernelFormats.{argument}
use Rattle.kernel_pages.proofs.format.push_arguments.Goals as goal

pub loop-field-preserved : goal.loop-field-preserved
loop-field-preserved c =
    let first = left c.args.fields.now c.loop-field.field-index c.field-item.result c.loop-field-test.true c.field-item.is in
    one_more argument c.field-item.result _ _ _ _ _ first c.in_ok-push_argument.ensures c.loop-field.invariant
