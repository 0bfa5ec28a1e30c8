use Rattle.std.proofs.Common.{sym, ◌∙◌}
use Rattle.std.proofs.lemmas.Bool.{and_parts, false≢true}
use Rattle.mount_tree.specs.Children.{file_is_there, owner_is_there}
use Rattle.mount_tree.specs.NodePaths.{owner_name}
use Rattle.mount_stub_files.proofs.Owners.{if_ok, owner-named, shown_there}
use Rattle.mount_stub_files.proofs.text.text_of.Goals as goal

pub returns-in-Some : goal.returns-in-Some
returns-in-Some c past is events given stands =
    let scene = c.args.scene.now in
    let there = sym c.if-exists.ensures in
    if_ok c.text_there.result (λ text shown. shown ∙ shown_there c.args.config.now past scene c.args.owner c.args.file is there)
    (c.text_there.ensures (owner_name scene c.args.owner) past is events (rw c.in-Some.is at stands))

pub returns-in-None : goal.returns-in-None
returns-in-None c past is events given stands =
    let scene = c.args.scene.now in
    let both = and_parts (owner_is_there scene c.args.owner) (file_is_there scene c.args.owner c.args.file) (sym c.if-exists.ensures) in
    absurd (false≢true ((rw c.in-None.is at given both.0) ∙ owner-named c.args.config.now.cpus past scene c.args.owner is both.0))
