use Rattle.fuse_wire.proofs.ReplyKinds.{replies_of_a_kind_differ}
use Rattle.fuse_wire.proofs.ReplyLaws.{replies_tell_their_length, replies_differ}
use Rattle.fuse_wire.proofs.laws.replies_are_told_apart.Goals as goal

pub returns-clause-length : goal.returns-clause-length
returns-clause-length c = replies_tell_their_length

pub returns-clause-differ : goal.returns-clause-differ
returns-clause-differ c = replies_differ

pub returns-clause-of_a_kind : goal.returns-clause-of_a_kind
returns-clause-of_a_kind c = replies_of_a_kind_differ
