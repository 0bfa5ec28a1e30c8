use Rattle.std.proofs.Common.{◌≡◌, sym, ap, ◌∙◌}
use Rattle.mount_replies.specs.Sizes.{text_in}
use Rattle.mount_replies.specs.contracts.mount.Mount.{the_view}
use Rattle.mount_replies.proofs.AddressLemmas.{at-top, read-is}
use Rattle.mount_replies.proofs.SizeLemmas.{shown-none, shown-text}
use Rattle.mount_replies.proofs.mount.Mount.shown_text.Goals as goal

pub prepare_read_at-requires : goal.prepare_read_at-requires
prepare_read_at-requires c = at-top c.self.inside.scene c.args.owner c.args.file c.address-address.result (rw (← c.self.view_is) at c.requires) c.address-address.ensures

pub returns-in-Text : goal.returns-in-Text
returns-in-Text c =
    let there = rw (← c.self.view_is) at c.requires in
    rw (← c.self.view_is) (λ past mounted.
    let shows : c.in-Text.text ≡ text_in c.in-Ok.prepared.reply = sym (ap text_in c.in-Text.is) ∙ ap text_in c.replace.ensures.value in
    shown-text past (the_view c.self.inside) c.args.owner c.args.file _ c.in-Ok.prepared.reply c.in-Text.text mounted
    (read-is past (the_view c.self.inside) c.args.owner c.args.file c.address-address.result _ mounted there c.address-address.ensures)
    (c.in-Ok.ensures.prepared past mounted.lives).0 c.in-Ok.ensures.room shows)

pub returns : goal.returns
returns c =
    let there = rw (← c.self.view_is) at c.requires in
    rw (← c.self.view_is) (λ past mounted.
    shown-none past (the_view c.self.inside) c.args.owner c.args.file _ c.in-Err.refusal _ mounted
    (read-is past (the_view c.self.inside) c.args.owner c.args.file c.address-address.result _ mounted there c.address-address.ensures)
    (c.in-Err.ensures.prepared past mounted.lives) c.in_default.not-Memory c.new-in_default.ensures)
