use Rattle.std.proofs.Common.{◌∙◌}
use Rattle.mount_tree.specs.Nodes.{number_of}
use Rattle.mount_tree.specs.declared.node.Node.TheVariants as nodes
use Rattle.mount_replies.specs.Mounted.{service_of, terms_of}
use Rattle.mount_replies.specs.Services.{count_of}
use Rattle.mount_replies.specs.private.Tellings.{size_of_pages, telling_of}
use Rattle.mount_replies.proofs.SizeLemmas.{kind-counted, no-recent-size, sized-whole}
use Rattle.mount_replies.proofs.mount.Mount.tell_file.Goals as goal

pub returns-in-None-clause-step : goal.returns-in-None-clause-step
returns-in-None-clause-step c past mounted =
    let old = c.args.self.now in
    let telling = telling_of c.args.telling (terms_of old) (nodes.File c.args.owner c.args.file) in
    let pages = size_of_pages c.args.telling in
    kind-counted past old c.count_text-in-None.new.self telling pages c.args.owner c.args.file c.kind.result c.count_text-in-None.result c.kind.ensures
    (sized-whole (terms_of old) (service_of past old) telling pages c.args.owner c.args.file c.kind.result c.in-Text.is
    ∙ no-recent-size (terms_of old) (service_of past old) telling c.args.owner c.args.file
    (count_of (number_of (nodes.File c.args.owner c.args.file)) old.counted) (c.in-None.ensures past mounted))
    (c.count_text-in-None.ensures.step past mounted)
