use Rattle.std.proofs.Common.{◌≡◌, None}
use Rattle.mount_tree.specs.Children.{cpu_children, node_named}
use Rattle.mount_tree.proofs.entry.cpu_named.Given as goal

-- no CPU before this one has the name
abbrev pub invariant-loop-cpu : goal.invariant-loop-cpu
invariant-loop-cpu l = node_named l.name (cpu_children l.owner l.cpu) ≡ None
