-- The request that a call asks: of an emission by values (events.rst, "In-kernel trace event API") that of the event's name and the pairs of its fields.
use Rattle.std.specs.Prelude.{List}
use Rattle.trace_command.specs.Requests.{Request, request_of}
use Rattle.tracer_specification.specs.Settings.{declared_events}
use Rattle.tracer_state.specs.ValueEmissions.{emission_by}
use Rattle.shared_mount.specs.MountEntries.{EntrySeen, done_in}
use Rattle.shared_mount.specs.declared.asked.Asked.{Asked}
use Rattle.shared_mount.specs.declared.asked.Asked.TheVariants as asks

-- what is asked, where these turns were taken
abbrev pub request_after : List EntrySeen → Asked → Request
request_after entries (asks.Command command) = request_of command.now
request_after entries (asks.Values emission) = emission_by (declared_events (done_in entries)) emission.now
