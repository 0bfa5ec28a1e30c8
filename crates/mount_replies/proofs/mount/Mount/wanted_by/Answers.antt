use Rattle.std.proofs.Common.{◌<◌, ◌≤◌, None, length, rules, sym}
use Rattle.std.proofs.lemmas.List.{take_all}
use Rattle.std.proofs.lemmas.List.Elements.{All-more, All-same}
use Rattle.mount_replies.specs.Watches.{IsUnwantedBy}
use Rattle.mount_replies.proofs.mount.Mount.wanted_by.Goals as goal

pub loop-index-preserved : goal.loop-index-preserved
loop-index-preserved c = λ past led.
    let within : c.loop-index.index < length c.args.slots.now = search rules in
    All-more (IsUnwantedBy c.args.self.now.live.config.cpus past c.args.number) c.args.slots.now c.loop-index.index None within
    (c.loop-index.invariant past led) (c.may_want.ensures past led c.if-may_want.false)

pub returns : goal.returns
returns c = λ past led is.
    let end : length c.args.slots.now ≤ c.loop-index.index = search rules in
    All-same (IsUnwantedBy c.args.self.now.live.config.cpus past c.args.number) c.args.slots.now _
    (sym (take_all c.loop-index.index c.args.slots.now end)) (c.loop-index.invariant past led)
