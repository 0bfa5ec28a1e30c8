use Rattle.std.proofs.Common.{arith}
use Rattle.std.proofs.lemmas.Grind.{common_steps}
use Rattle.page_ring.proofs.pages.Pages.new.Goals as goal

pub loop-page-init : goal.loop-page-init
loop-page-init c = grind (arith, common_steps)

pub push_back_reserved-requires : goal.push_back_reserved-requires
push_back_reserved-requires c = grind (arith, common_steps)

pub loop-page-preserved : goal.loop-page-preserved
loop-page-preserved c = grind (arith, common_steps)

pub returns : goal.returns
returns c = grind (arith, common_steps)
