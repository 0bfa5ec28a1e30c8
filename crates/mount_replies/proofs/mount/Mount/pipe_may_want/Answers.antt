use Rattle.std.proofs.Common.{◌≡◌, ◌-◌, false, sym, ap, ◌∙◌}
use Rattle.tracer_specification.specs.IdleEvents.{wants}
use Rattle.trace_instance.specs.WantedEvents.{wants_event}
use Rattle.mount_tree.specs.NodePaths.{owner_name}
use Rattle.mount_tree.specs.Scenes.{SceneSeen}
use Rattle.mount_replies.proofs.WatchLemmas.{told-unwanted}
use Rattle.mount_replies.proofs.mount.Mount.pipe_may_want.Goals as goal

pub returns : goal.returns
returns c = λ past led off event there.
    let old = c.args.self.now in
    let said : wants_event c.in-Some.instance.now (c.args.number - 1) ≡ false = sym c.wants.ensures ∙ off in
    ap (λ (scene : SceneSeen). wants (owner_name scene c.args.pipe.now.owner) event past) (sym led.scene)
    ∙ told-unwanted old.live.config (owner_name old.scene c.args.pipe.now.owner) past c.in-Some.instance.now (c.in-Some.ensures.stands past led.lives)
    c.args.number said event there
