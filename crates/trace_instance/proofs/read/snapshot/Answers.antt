use Rattle.std.proofs.Common.{refl}
use Rattle.std.proofs.lemmas.Result.{IfOk-weaker}
use Rattle.tracer_specification.specs.FileTexts.{shown_snapshot}
use Rattle.trace_instance.specs.Instances.{side_families}
use Rattle.trace_instance.proofs.EventReads.{spare-shape}
use Rattle.trace_instance.proofs.read.snapshot.Goals as goal

pub returns : goal.returns
unfolding shown_snapshot
returns c = λ g name past is.
    let instance = is.instance in
    let sides = c.sides.ensures in
    IfOk-weaker c.snapshot_text.result _ _
    (λ text shown.
    let is_shown = shown (side_families g name past) (rw sides instance.sides) g.pages g.page_bytes
    (rw sides (spare-shape g c.args.source.instance.now.sides.spare instance.shaped.spare)) in
    rw (is_shown, is.events) refl)
    c.snapshot_text.ensures
