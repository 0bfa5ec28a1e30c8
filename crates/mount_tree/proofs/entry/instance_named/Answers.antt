use Rattle.mount_tree.proofs.EntryLemmas.{named_instance}
use Rattle.mount_tree.proofs.entry.instance_named.Goals as goal

pub returns-in-Some : goal.returns-in-Some
returns-in-Some c = named_instance c.args.name.now c.args.instances.now _ c.in-Some.ensures

pub returns-in-None : goal.returns-in-None
returns-in-None c = named_instance c.args.name.now c.args.instances.now _ c.in-None.ensures
