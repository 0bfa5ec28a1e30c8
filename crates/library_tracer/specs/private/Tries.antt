-- What a try leaves of a console's caller, and what is told of it.
use Rattle.std.specs.Prelude.{Option, Some, None, Result, Ok, Err}
use Rattle.trace_command.specs.declared.refusal.Refusal.{Refusal}
use Rattle.trace_command.specs.declared.refusal.Refusal.TheVariants as refusals
use Rattle.shared_mount.specs.declared.caller.Caller.{Caller}
use Rattle.shared_mount.specs.declared.caller.InLine.{InLine}
use Rattle.shared_mount.specs.declared.served.NoTurn.{NoTurn}
use Rattle.shared_mount.specs.declared.served.NoTurn.TheVariants.{Busy, Worn}
use Rattle.library_tracer.specs.declared.queued.Queued.{Queued}

-- the caller that comes back of a try
abbrev pub caller_back : {T : Type 0} → Result (Caller × T) NoTurn → Caller
caller_back (Ok told) = told.0
caller_back (Err (Busy caller)) = caller
caller_back (Err (Worn caller)) = caller

-- what is told of it: nothing, where somebody else has a turn
abbrev pub told_of : {T : Type 0} → Result (Caller × T) NoTurn → Option (Result T Refusal)
told_of (Ok told) = Some (Ok told.1)
told_of (Err (Busy caller)) = None
told_of (Err (Worn caller)) = Some (Err refusals.Worn)

-- who was in line is idle after a turn
abbrev pub idle_after : {T : Type 0} → Option Caller → Result (Caller × T) InLine → Option Caller
idle_after idle (Ok told) = Some told.0
idle_after idle (Err line) = idle

-- or in line again, where there was none
abbrev pub queued_after : {T : Type 0} → Option Queued → Result (Caller × T) InLine → Option Queued
queued_after queued (Ok told) = queued
queued_after queued (Err line) = Some (record { line = line })

-- and what is told: nothing, where there was none
abbrev pub told_in_line : {T : Type 0} → Result (Caller × T) InLine → Option (Result T Refusal)
told_in_line (Ok told) = Some (Ok told.1)
told_in_line (Err line) = None
