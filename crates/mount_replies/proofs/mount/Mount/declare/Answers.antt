use Rattle.std.proofs.Common.{refl}
use Rattle.mount_replies.proofs.AddressLemmas.{undeclared}
use Rattle.mount_replies.proofs.mount.Mount.declare.Goals as goal

pub returns-in-Err-clause-asked : goal.returns-in-Err-clause-asked
returns-in-Err-clause-asked c = λ past mounted.
    undeclared past c.args.self.now c.args.self.now.scene c.args.owner c.args.append c.args.text.now mounted c.requires refl
