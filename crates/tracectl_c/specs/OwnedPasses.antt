-- What a tracer's handle owns of the passes that it points to.
use Rattle.std.specs.Prelude.{Option, Some, None}
use base.Fml.{Fml, ftrue}
use Rattle.std.specs.Coded.{coded_option}
use base.Stored.{Coded}
use denote.RawPtr.{Ptr}
use Rattle.std.specs.Box.Ownership.{box_owns}
use Rattle.std.specs.Global.{Global}
use Rattle.std_heap.specs.contracts.GlobalAllocator.TheImpl.{ghosts}
use Rattle.library_tracer.specs.contracts.passes.Passes.{the_row}

-- what a contract sees of passes
abbrev pub Seen : Type 0
Seen = the_row.Denot

-- nothing; or passes at this address, with the right to free its block
abbrev pub sealed_owns : Global → Ptr → Option the_row.Denot → Fml
sealed_owns alloc at None = ftrue
sealed_owns alloc at (Some passes) = box_owns (ghosts.dealloc_token alloc) the_row at passes

abbrev pub seen_coded : Coded (Option the_row.Denot)
seen_coded = coded_option the_row.coded
