use Rattle.std.proofs.Common.{sym, ◌∙◌}
use Rattle.mount_tree.specs.Children.{fixed_children}
use Rattle.mount_tree.specs.FolderEntries.{child_of}
use Rattle.mount_tree.proofs.EntryLemmas.{named_here, named_later, named_past}
use Rattle.mount_tree.proofs.fixed.fixed_named.Goals as goal

pub loop-index-preserved : goal.loop-index-preserved
loop-index-preserved c =
    named_later c.args.name.now (fixed_children c.args.owner c.args.folder) c.loop-index.index (child_of c.in-Some.entry) (sym c.in-Some.ensures)
    (sym c.if-eq.ensures)
    ∙ c.loop-index.invariant

pub returns-in_default : goal.returns-in_default
returns-in_default c =
    sym (named_past c.args.name.now (fixed_children c.args.owner c.args.folder) c.loop-index.index (sym c.in_default.ensures))
    ∙ c.loop-index.invariant

pub returns-then-eq : goal.returns-then-eq
returns-then-eq c =
    sym (named_here c.args.name.now (fixed_children c.args.owner c.args.folder) c.loop-index.index (child_of c.in-Some.entry) (sym c.in-Some.ensures)
    (sym c.if-eq.ensures))
    ∙ c.loop-index.invariant
