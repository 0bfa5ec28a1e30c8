use Rattle.std.proofs.Common.{Some, ap, ◌∙◌}
use Rattle.mount_tree.specs.declared.node.Node.{Node}
use Rattle.mount_replies.proofs.SizeLemmas.{told-file}
use Rattle.mount_replies.proofs.mount.Mount.tell_node.Goals as goal

pub returns-in-Some-File-clause-step : goal.returns-in-Some-File-clause-step
returns-in-Some-File-clause-step c past mounted =
    let file = rw c.in-Some-File.is at c.in-Some-File.field-0-is in
    told-file past c.args.self.now c.tell_file.new.self c.args.telling c.in-Some-File.owner c.in-Some-File.file c.args.node c.tell_file.result
    (c.in-Some-File.is ∙ ap (λ (n : Node). Some n) file) (c.tell_file.ensures.step past mounted)
