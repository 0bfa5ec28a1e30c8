use Rattle.page_ring.proofs.Losses.{kept_were_put}
use Rattle.page_ring.proofs.laws.kept_were_put.Goals as goal

pub returns : goal.returns
returns c = kept_were_put
