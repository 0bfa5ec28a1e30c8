use Rattle.std.proofs.Common.{arith}
use Rattle.file_list.specs.Files.{lines_of_event}
use Rattle.file_list.proofs.Lines.{one_written}
use Rattle.file_list.proofs.listing.push_each_event.Goals as goal

pub loop-event-preserved : goal.loop-event-preserved
loop-event-preserved c =
    one_written _ (lines_of_event c.args.instance.now) c.args.events.now c.loop-event.event-index c.event-item.result _ c.loop-event.out.items
    c.push_event.new.out.items (omega arith) c.event-item.is c.loop-event.invariant (cc (c.in_ok-push_event.ensures, c.as_bytes.ensures))
