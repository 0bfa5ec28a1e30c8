use Rattle.std.proofs.Common.{◌∙◌}
use Rattle.mount_replies.specs.contracts.mount.Mount.{the_view}
use Rattle.mount_replies.proofs.WriteLemmas.{wrong-step}
use Rattle.mount_replies.proofs.mount.Mount.refuse_wrong.Goals as goal

pub returns-clause-step : goal.returns-clause-step
returns-clause-step c = λ past own mounted owner_is file_is.
    wrong-step past c.args.self.now (the_view c.self.inside) own c.args.owner c.args.file 0 c.args.bytes.now c.note_wrong.new.errors mounted owner_is file_is
    (c.self.view_is ∙ c.in-Ok.ensures.ok past mounted) c.note_wrong.ensures
