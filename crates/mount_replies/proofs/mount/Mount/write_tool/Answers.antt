use Rattle.mount_replies.proofs.SwitchLemmas.{switch-there}
use Rattle.mount_replies.proofs.mount.Mount.write_tool.Goals as goal

pub write_switch-requires : goal.write_switch-requires
write_switch-requires c =
    rw (← c.self.view_is) (switch-there c.config.result.now c.self.inside.scene c.args.target.owner c.args.target.file c.args.bytes.now c.in-Switch.switch
    c.in-Switch.on c.in-Switch.size c.in-Switch.ensures.value)
