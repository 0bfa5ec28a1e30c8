use Rattle.page_ring.proofs.Greedy.{cut_is_greedy}
use Rattle.page_ring.proofs.laws.cut_is_greedy.Goals as goal

pub returns : goal.returns
returns c = cut_is_greedy
