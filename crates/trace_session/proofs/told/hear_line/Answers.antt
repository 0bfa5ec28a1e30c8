use Rattle.trace_session.proofs.told.hear_line.Goals as goal

pub unreachable-requires : goal.unreachable-requires
unreachable-requires g c = (rw c.in_default.is at c.find.ensures.line) c.requires.0 c.requires.1
