use Rattle.std.proofs.Common.{arith}
use Rattle.std.proofs.lemmas.Grind.{common_steps}
use Rattle.page_ring.proofs.pages.Pages.swap_reader.Goals as goal

pub push_front_reserved-requires : goal.push_front_reserved-requires
push_front_reserved-requires c = grind (arith, common_steps)

pub returns-in-Some : goal.returns-in-Some
returns-in-Some c = grind (arith, common_steps)

pub returns-in_default : goal.returns-in_default
returns-in_default c = grind (arith, common_steps)

pub returns-else-unread-eq0 : goal.returns-else-unread-eq0
returns-else-unread-eq0 c = grind (arith, common_steps)
