use Rattle.std.proofs.Common.{◌∙◌, Ok, Err, ap, subst}
use Rattle.trace_command.specs.Requests.{Request}
use Rattle.file_list.specs.declared.file.File.TheVariants.{SyntheticEvents}
use Rattle.mount_tree.specs.NodePaths.{address_meant}
use Rattle.mount_tree.specs.Scenes.{SceneSeen, with_event}
use Rattle.mount_tree.specs.declared.node.Node.TheVariants as nodes
use Rattle.tracer.specs.Lives.{IsCall}
use Rattle.mount_replies.specs.Steps.{write_of}
use Rattle.mount_replies.specs.contracts.mount.Mount.{the_view}
use Rattle.mount_replies.proofs.AddressLemmas.{declared-call, declares-text, grown-address, undeclared, undeclared-call, write-is}
use Rattle.mount_replies.proofs.mount.Mount.declare_event.Goals as goal

pub returns-in-Ok-write_at-clause-asked : goal.returns-in-Ok-write_at-clause-asked
returns-in-Ok-write_at-clause-asked c =
    let there = rw (← c.self.view_is) at c.requires.there in
    rw (← c.self.view_is) (λ past mounted.
    let old = the_view c.self.inside in
    let same = write-is past old c.args.owner SyntheticEvents c.address-address.result c.args.append c.args.text.now mounted there
    (c.address-address.ensures ∙ ap (λ (s : SceneSeen). address_meant s c.args.owner SyntheticEvents) c.in-Ok.ensures.ok
    ∙ grown-address old.scene c.name-name.result.now c.args.owner) in
    declared-call past old c.write_at.new.self c.add_event.new.self
    (write_of old.scene (nodes.File c.args.owner SyntheticEvents) c.args.append c.args.text.now) c.args.event.now c.in-Ok-write_at.reply mounted
    c.write_at.ensures.config
    (subst (λ (r : Request). IsCall past c.write_at.new.self r (Ok c.in-Ok-write_at.reply)) same (c.in-Ok-write_at.ensures.call past mounted.lives))
    (declares-text past old c.args.owner c.args.append c.args.text.now mounted there ∙ c.requires.declared)
    (c.in-Ok.ensures.ok ∙ ap (λ n. with_event n old.scene) c.name-name.ensures))

pub returns-in-Err-clause-asked : goal.returns-in-Err-clause-asked
returns-in-Err-clause-asked c =
    let there = rw (← c.self.view_is) at c.requires.there in
    rw (← c.self.view_is) (λ past mounted.
    let old = the_view c.self.inside in
    let same = write-is past old c.args.owner SyntheticEvents c.address-address.result c.args.append c.args.text.now mounted there
    (c.address-address.ensures ∙ ap (λ (s : SceneSeen). address_meant s c.args.owner SyntheticEvents) c.in-Ok.ensures.ok
    ∙ grown-address old.scene c.name-name.result.now c.args.owner) in
    undeclared-call past old c.write_at.new.self c.take_back_event.new.self
    (write_of old.scene (nodes.File c.args.owner SyntheticEvents) c.args.append c.args.text.now) c.in-Err.refusal mounted c.write_at.ensures.config
    (subst (λ (r : Request). IsCall past c.write_at.new.self r (Err c.in-Err.refusal)) same (c.in-Err.ensures.call past mounted.lives))
    (c.take_back_event.ensures old.scene c.in-Ok.ensures.ok))

pub returns-in_default-clause-asked : goal.returns-in_default-clause-asked
returns-in_default-clause-asked c =
    let there = rw (← c.self.view_is) at c.requires.there in
    rw (← c.self.view_is) (λ past mounted.
    undeclared past (the_view c.self.inside) c.add_event.new.self c.args.owner c.args.append c.args.text.now mounted there c.in_default.ensures.err)
