use Rattle.std.proofs.Common.{◌≡◌, drop}
use Rattle.mount_tree.specs.Children.{fixed_children, node_named}
use Rattle.mount_tree.proofs.fixed.fixed_named.Given as goal

-- the first of this name among those that are left is that of all
abbrev pub invariant-loop-index : goal.invariant-loop-index
invariant-loop-index l = node_named l.name (drop l.index (fixed_children l.owner l.folder)) ≡ node_named l.name (fixed_children l.owner l.folder)
