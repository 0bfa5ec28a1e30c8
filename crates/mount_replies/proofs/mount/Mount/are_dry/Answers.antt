use Rattle.std.proofs.Common.{◌<◌, ◌≤◌, IfSome, Option, None, length, rules, sym}
use Rattle.std.proofs.lemmas.List.{take_all}
use Rattle.std.proofs.lemmas.List.Elements.{All-more, All-same}
use Rattle.mount_replies.specs.declared.dry_pipes.DryPipe.{DryPipe}
use Rattle.mount_replies.specs.private.DryPipes.{IsDryNow}
use Rattle.mount_replies.proofs.mount.Mount.are_dry.Goals as goal

pub loop-index-preserved : goal.loop-index-preserved
loop-index-preserved c = λ past led.
    let within : c.loop-index.index < length c.args.slots.now = search rules in
    All-more (λ (slot : Option DryPipe). IfSome slot (IsDryNow past c.args.self.now)) c.args.slots.now c.loop-index.index None within
    (c.loop-index.invariant past led) (c.is_dry_now.ensures past led c.if-not-is_dry_now.false)

pub returns : goal.returns
returns c = λ is past led.
    let end : length c.args.slots.now ≤ c.loop-index.index = search rules in
    All-same (λ (slot : Option DryPipe). IfSome slot (IsDryNow past c.args.self.now)) c.args.slots.now _
    (sym (take_all c.loop-index.index c.args.slots.now end)) (c.loop-index.invariant past led)
