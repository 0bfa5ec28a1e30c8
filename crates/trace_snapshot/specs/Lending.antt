-- What becomes of the sides when the live one was lent.
use Rattle.std.specs.Borrow.{Lends, MutBor, Fml}
use Rattle.trace_buffer.specs.Buffers.{Seen}
use Rattle.trace_snapshot.specs.Sides.{SidesSeen}
use Rattle.trace_snapshot.specs.contracts.sides.Sides.{the_row}
use Rattle.trace_buffer.specs.contracts.buffer.Buffer.{the_row as buffer_row}

-- the sides end with the last live side, and all else is as it was
abbrev pub LendsLive : MutBor SidesSeen → MutBor Seen → Fml
LendsLive sides live = Lends the_row buffer_row sides live (λ side. record sides.now { live = side })
