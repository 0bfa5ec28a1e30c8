-- What is sealed may go to another thread: it owns nothing, or a box of what may.
use mir.Raw.{raw}
use base.Shift.{Keyless}
use denote.Memory.{lone}
use denote.RawPtr.{Ptr}
use denote.Struct.Struct.{exits_of}
use denote.Struct.Owning.{shape, fields, to}
use denote.Param.Send.{AllSend, IsSend, owning_send, sendable, struct_send}
use Rattle.std.specs.Prelude.{Option, Some, None}
use Rattle.std.specs.Global.{Global}
use Rattle.std.proofs.Crossing as heap
use Rattle.std_alloc.proofs.SendSync.{lies, quiet}
use Rattle.std_heap.proofs.Global.TheSendSync as handle
use Rattle.library_tracer.specs.contracts.console.Console as Console
use Rattle.library_tracer.proofs.console.Console.TheSendSync.{the_send as may_go}
use Rattle.tracectl_c.specs.Owned.{sealed_owns}
use Rattle.tracectl_c.specs.contracts.sealed_console.SealedConsole.{the_row, the_type}

owned : (alloc : Global) (at : Ptr) (held : Option Console.the_row.Denot) → Keyless (sealed_owns alloc at held)
owned alloc at None = tt
owned alloc at (Some x) = (lies Console.the_row may_go at x, heap.frees.frees alloc (raw (lone Console.the_row.mir)) at)

pub send : IsSend the_row
send =
    let all : AllSend (fields the_type) = (search sendable, (handle.the_field_send, tt)) in
    owning_send the_type all (λ d. owned d.alloc d.at d.console) (λ k. quiet (to the_type) (exits_of k (fields the_type)) ((struct_send (shape the_type) all).leaving k))
