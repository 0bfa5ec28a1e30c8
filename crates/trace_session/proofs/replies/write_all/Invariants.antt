use Rattle.std.proofs.Common.{◌≡◌, ℕ, List, ◌++◌, length}
use Rattle.std.specs.Io.KnownBytes.{Appends}
use Rattle.trace_session.proofs.replies.write_all.Given as goal

abbrev pub invariant-loop-rest : goal.invariant-loop-rest
invariant-loop-rest g l =
    let contents = g.W.Sink.contents in
    let failures = g.W.Sink.failures in
    let heard = g.W.Sink.heard in
    (front : List ℕ) × (l.text ≡ front ++ l.rest) × Appends (contents l.fn.writer) (contents l.writer) front
    × (failures l.writer ≡ failures l.fn.writer) × (heard l.writer ≡ heard l.fn.writer)

abbrev pub decreases-loop-rest : goal.decreases-loop-rest
decreases-loop-rest g l = length l.rest
