use Rattle.page_ring.proofs.Losses.{offered_is_puts}
use Rattle.page_ring.proofs.laws.offered_is_puts.Goals as goal

pub returns : goal.returns
returns c = offered_is_puts
