-- What is prepared for a read whose reply is made later.
use Rattle.std.specs.Prelude.{Result, Ok, Err}
use Rattle.trace_command.specs.declared.refusal.Refusal.{Refusal}
use Rattle.trace_instance.specs.LateReplies.{reply_of}
use Rattle.tracer_state.specs.declared.state.Prepared.{Prepared}
use Rattle.tracer_state.specs.declared.late.PreparedLate.{PreparedLate}

-- the change and the reply, once it is made
abbrev pub prepared_by : PreparedLate → Prepared
prepared_by late = record { change = late.change; reply = reply_of late.late }

abbrev pub prepared_of : Result PreparedLate Refusal → Result Prepared Refusal
prepared_of (Ok late) = Ok (prepared_by late)
prepared_of (Err refusal) = Err refusal
