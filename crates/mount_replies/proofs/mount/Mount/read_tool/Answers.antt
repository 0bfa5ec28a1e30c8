use Rattle.std.proofs.Common.{refl, sym, ◌∙◌}
use Rattle.mount_stub_files.specs.ToolTexts.{tool_text}
use Rattle.mount_replies.specs.Services.{with_reading}
use Rattle.mount_replies.specs.contracts.mount.Mount.{the_view}
use Rattle.mount_replies.proofs.ToolLemmas.{tool-made, tool-missing, tool-refused}
use Rattle.mount_replies.proofs.mount.Mount.read_tool.Goals as goal

pub returns-in-Ok-Some-clause-told : goal.returns-in-Ok-Some-clause-told
returns-in-Ok-Some-clause-told c =
    let kept = rw (← c.self.view_is) at c.give_text.ensures.kept in
    rw (← c.self.view_is, kept) (λ past mounted.
    let old = the_view c.self.inside in
    let events = c.catalog-catalog.ensures past mounted.lives in
    let there = (rw (← c.self.view_is) at c.instance_of-instance.ensures.there) past mounted.lives in
    let stands = (rw (← c.self.view_is) at c.instance_of-instance.ensures.stands) past mounted.lives in
    tool-made past old c.args.read.handle c.args.offset c.args.read.size (tool_text old.live.config past c.args.owner c.args.file) c.in-Ok-Some.text
    (with_reading c.args.offset c.args.read.size c.in-Ok-Some.text c.args.read.handle old.files) c.args.read.unique c.give_text.new.out.items mounted
    (sym c.in-Ok-Some.field-0-is ∙ (rw c.config-config.ensures at c.in-Ok-Some.ensures) past mounted.scene events there stands) refl c.give_text.ensures.bytes)

pub returns-in-Ok-None-clause-told : goal.returns-in-Ok-None-clause-told
returns-in-Ok-None-clause-told c =
    rw (← c.self.view_is) (λ past mounted.
    let old = the_view c.self.inside in
    let events = c.catalog-catalog.ensures past mounted.lives in
    let there = (rw (← c.self.view_is) at c.instance_of-instance.ensures.there) past mounted.lives in
    let stands = (rw (← c.self.view_is) at c.instance_of-instance.ensures.stands) past mounted.lives in
    tool-missing past old c.args.read.handle c.args.offset c.args.read.size (tool_text old.live.config past c.args.owner c.args.file)
    c.args.read.unique c.tell_error.new.out.items mounted
    (sym c.in-Ok-None.field-0-is ∙ (rw c.config-config.ensures at c.in-Ok-None.ensures) past mounted.scene events there stands) c.tell_error.ensures.bytes)

pub returns-in-Err-clause-told : goal.returns-in-Err-clause-told
returns-in-Err-clause-told c =
    rw (← c.self.view_is) (λ past mounted.
    let old = the_view c.self.inside in
    tool-refused past old c.args.read.handle c.args.offset c.args.read.size (tool_text old.live.config past c.args.owner c.args.file)
    c.args.read.unique c.tell_error-in-Err.new.out.items mounted c.tell_error-in-Err.ensures.bytes)
