use Rattle.std.proofs.Common.{◌≡◌, refl, ap, ◌∙◌}
use Rattle.trace_command.specs.declared.command.Reply.TheVariants.{Text}
use Rattle.record_text.specs.CopyText.{copied_snapshot_text}
use Rattle.tracer_specification.specs.FileTexts.{shown_snapshot}
use Rattle.trace_instance.specs.Instances.{side_families}
use Rattle.trace_instance.proofs.EventReads.{spare-shape}
use Rattle.trace_instance.proofs.LateReads.{snapshot_read}
use Rattle.trace_instance.proofs.late_reply.copy_snapshot.Goals as goal

pub returns : goal.returns
unfolding shown_snapshot
returns c = λ g name past is.
    let instance = is.instance in
    let sides = c.sides.ensures in
    let copied = c.in_ok-copy.ensures c.args.source.catalog.now (side_families g name past) (rw sides instance.sides) g.pages g.page_bytes
    (rw sides (spare-shape g c.args.source.instance.now.sides.spare instance.shaped.spare)) in
    let shown : copied_snapshot_text c.args.source.catalog.now c.in_ok-copy.copy ≡ shown_snapshot g name past = copied ∙ rw is.events refl in
    snapshot_read g name past _ (c.in_ok-late.ensures ∙ ap Text shown)
