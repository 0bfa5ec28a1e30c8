-- An event that was found by its name.
use Rattle.std.specs.Prelude.{◌+◌}
use Rattle.tracer_specification.specs.Settings.{NumberedEvent}
use Rattle.tracer_state.specs.declared.resolve.Found.{Found}

-- an event that was found, with its id
abbrev pub numbered : Found → NumberedEvent
numbered found = record { id = found.index + 1; event = found.event.now }
