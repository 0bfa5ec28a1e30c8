use Rattle.std.proofs.lemmas.Result.{on_ok_weaker}
use Rattle.file_list.proofs.Lines.{three_lines}
use Rattle.file_list.proofs.names.Names.push_events.Goals as goal

pub returns : goal.returns
returns c =
    rw (← c.self.view_is)
    (on_ok_weaker c.push_each_event.result
    (three_lines _ _ _ _ _ _ _ (rw c.as_slice.ensures at c.in_ok-push_items.ensures) (rw c.as_slice-2.ensures at c.in_ok-push_items-2.ensures))
    (rw c.deref.ensures.value at c.push_each_event.ensures))
