use Rattle.mount_replies.proofs.PartLaws.{nothing_left_is_all, reads_go_on}
use Rattle.mount_replies.proofs.laws.reads_give_one_text.Goals as goal

pub returns-clause-together : goal.returns-clause-together
returns-clause-together c = reads_go_on

pub returns-clause-all : goal.returns-clause-all
returns-clause-all c = nothing_left_is_all
