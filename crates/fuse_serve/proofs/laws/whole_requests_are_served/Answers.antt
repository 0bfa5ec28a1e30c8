use Rattle.fuse_serve.proofs.CutLemmas.{all_are_served}
use Rattle.fuse_serve.proofs.laws.whole_requests_are_served.Goals as goal

pub returns : goal.returns
returns c = all_are_served
