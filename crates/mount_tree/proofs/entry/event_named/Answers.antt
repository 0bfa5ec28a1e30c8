use Rattle.mount_tree.proofs.EntryLemmas.{named_event}
use Rattle.mount_tree.proofs.entry.event_named.Goals as goal

pub returns-in-Some : goal.returns-in-Some
returns-in-Some c = named_event c.args.name.now c.args.owner c.args.events.now _ c.in-Some.ensures

pub returns-in-None : goal.returns-in-None
returns-in-None c = named_event c.args.name.now c.args.owner c.args.events.now _ c.in-None.ensures
