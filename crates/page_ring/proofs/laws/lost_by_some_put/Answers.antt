use Rattle.page_ring.proofs.Losses.{lost_by_some_put}
use Rattle.page_ring.proofs.laws.lost_by_some_put.Goals as goal

pub returns : goal.returns
returns c = lost_by_some_put
