use Rattle.std.proofs.Common.{Some, ◌≡◌, subst}
use Rattle.mount_tree.specs.declared.node.Node.{Node}
use Rattle.mount_tree.specs.declared.node.Node.TheVariants as nodes
use Rattle.mount_replies.specs.Told.{known}
use Rattle.mount_replies.proofs.AddressLemmas.{known-there}
use Rattle.mount_replies.proofs.mount.Mount.open.Goals as goal

pub open_file-requires : goal.open_file-requires
open_file-requires c =
    known-there c.args.self.now.scene c.args.node (nodes.File c.in-Some-File.owner c.in-Some-File.file)
    (subst (λ (n : Node). Some n ≡ known c.args.self.now.scene c.args.node) c.in-Some-File.field-0-is c.in-Some-File.ensures)
