-- A thread's handle as the console that it points to, if there is one, and a tracer's as its passes.
use Rattle.std.specs.Prelude.{◌==◌, if◌then◌else◌, Option, None}
use Rattle.tracectl_c.specs.declared.thread_handle.ThreadHandle.{ThreadHandle}
use Rattle.tracectl_c.specs.declared.thread_handle.TheConstants.{JOINED}
use Rattle.tracectl_c.specs.declared.tracer_handle.TracerHandle.{TracerHandle}
use Rattle.tracectl_c.specs.declared.tracer_handle.TheConstants.{OPEN}
use Rattle.tracectl_c.specs.Owned.{Seen}
use Rattle.tracectl_c.specs.OwnedPasses as passes

abbrev pub console_of : ThreadHandle → Option Seen
console_of thread = if thread.state == JOINED then thread.sealed.console else None

abbrev pub passes_of : TracerHandle → Option passes.Seen
passes_of tracer = if tracer.state == OPEN then tracer.sealed.passes else None
