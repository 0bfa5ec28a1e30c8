use Rattle.record_text.proofs.EventLemmas.{line_appended}
use Rattle.record_text.proofs.record.push_event_line.Goals as goal

pub returns : goal.returns
returns c =
    line_appended c.args.cpu c.args.head.now c.args.def.now c.args.payload.now _ _ _ _ _ _ _ _ c.in_ok-push_cells.field-0
    c.in_ok-push_line_start.ensures c.name.ensures c.in_ok-extend_from_slice.ensures.items c.in_ok-push.ensures.items c.fields.ensures.fields c.if-not-branch.false
    c.in_ok-push_cells.ensures.cells c.in_ok-push-2.ensures.items
