use Rattle.trace_filter.specs.private.Seen.{token_of}
use Rattle.trace_filter.proofs.Depths.{one_deeper}
use Rattle.trace_filter.proofs.syntax.read_syntax.Goals as goal

pub depth-requires : goal.depth-requires
depth-requires c = one_deeper c.loop-spot.reader c.take.new.self (token_of c.in-Some.spot.token) c.take.result c.take.ensures c.if-not-take.false c.loop-spot.invariant.shallow
