-- What a thread's handle owns of the console that it points to.
use Rattle.std.specs.Prelude.{Bool, false, Option, Some, None, is_some}
use base.Fml.{Fml, ftrue}
use Rattle.std.specs.Coded.{coded_option}
use base.Stored.{Coded}
use denote.RawPtr.{Ptr}
use Rattle.std.specs.Box.Ownership.{box_owns}
use Rattle.std.specs.Global.{Global}
use Rattle.std_heap.specs.contracts.GlobalAllocator.TheImpl.{ghosts}
use Rattle.library_tracer.specs.contracts.console.Console.{the_row}

-- what a contract sees of a console
abbrev pub Seen : Type 0
Seen = the_row.Denot

-- whether there is a console, and its caller
abbrev pub has_caller : Option Seen → Bool
has_caller None = false
has_caller (Some console) = is_some console.has

-- nothing; or a console at this address, with the right to free its block
abbrev pub sealed_owns : Global → Ptr → Option the_row.Denot → Fml
sealed_owns alloc at None = ftrue
sealed_owns alloc at (Some console) = box_owns (ghosts.dealloc_token alloc) the_row at console

abbrev pub seen_coded : Coded (Option the_row.Denot)
seen_coded = coded_option the_row.coded
