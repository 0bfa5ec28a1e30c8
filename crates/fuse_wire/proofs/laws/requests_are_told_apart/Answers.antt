use Rattle.fuse_wire.proofs.RequestLaws.{requests_have_bytes, requests_differ}
use Rattle.fuse_wire.proofs.laws.requests_are_told_apart.Goals as goal

pub returns-clause-have : goal.returns-clause-have
returns-clause-have c = requests_have_bytes

pub returns-clause-differ : goal.returns-clause-differ
returns-clause-differ c = requests_differ
