use Rattle.std.proofs.Common.{sym}
use Rattle.mount_tree.specs.Children.{fixed_children, made_children}
use Rattle.mount_tree.proofs.EntryLemmas.{named_first}
use Rattle.mount_tree.proofs.scene.Scene.listed_named.Goals as goal

pub returns-in-Some : goal.returns-in-Some
returns-in-Some c =
    sym (named_first c.args.name.now (fixed_children c.args.owner c.args.folder) (made_children c.args.self.now c.args.owner c.args.folder) c.in-Some.node
    (sym c.in-Some.ensures))
