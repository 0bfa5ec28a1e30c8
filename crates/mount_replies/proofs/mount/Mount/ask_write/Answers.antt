use Rattle.mount_replies.proofs.AddressLemmas.{declares-none, on-err, stays-same}
use Rattle.mount_replies.proofs.mount.Mount.ask_write.Goals as goal

pub returns-in_default : goal.returns-in_default
returns-in_default c = record {
  asked = λ past mounted.
      c.write_at.ensures.asked past mounted
      (declares-none past c.args.self.now c.args.owner c.args.file c.args.append c.args.text.now mounted c.requires c.in_default.not-SyntheticEvents);
  stays = stays-same c.args.self.now.scene c.write_at.new.self.scene c.args.owner c.args.file c.requires c.write_at.ensures.scene;
  refused = on-err c.write_at.result _ c.write_at.ensures.scene;
}
