use Rattle.fuse_wire.proofs.Examples.{are_requests, are_replies}
use Rattle.fuse_wire.proofs.laws.messages_are_as_met.Goals as goal

pub returns-clause-requests : goal.returns-clause-requests
returns-clause-requests c = are_requests

pub returns-clause-replies : goal.returns-clause-replies
returns-clause-replies c = are_replies
