use Rattle.std.proofs.Common.{◌∙◌}
use Rattle.mount_replies.proofs.AddressLemmas.{found-there, none-there}
use Rattle.mount_replies.proofs.mount.Mount.look_up.Goals as goal
use Rattle.mount_replies.proofs.mount.Mount.look_up.Goals.{in-Some, in-None}

pub tell_node-requires : goal.tell_node-requires
tell_node-requires c = rw (← c.self.view_is) (elim c.match-folder.branch [
  | in-Some w ↦ found-there c.self.inside.scene w.in-Some.folder c.args.name.now c.match-folder.node (w.node-is ∙ w.lookup-node.ensures)
  | in-None w ↦ none-there c.self.inside.scene c.match-folder.node w.node-is
])
