-- Emissions by values: the number of an event and values for its fields, in place of a name and pairs (events.rst, "In-kernel trace event API").
use Rattle.std.specs.Prelude.{ℕ, ℤ, List, [], Option, Some, None}
use Rattle.trace_command.specs.Requests.{Request, Emission}
use Rattle.trace_format.specs.Catalogs.{event_of}
use Rattle.trace_format.specs.Definitions.{Definition}
use Rattle.trace_format.specs.Values.{pairs_given}
use Rattle.trace_format.specs.declared.field_value.FieldValue.{FieldValue}
use Rattle.tracer_state.specs.declared.emission.ValuesEmission.{ValuesEmission}

-- the emission of an event. Where there is no such event it is an emission of the empty name, which no event has.
abbrev pub emission_of : Option Definition → ℕ → ℤ → List FieldValue → Request
emission_of None cpu pid values = Emission [] cpu pid []
emission_of (Some event) cpu pid values = Emission event.name cpu pid (pairs_given event.fields values)

-- the emission of the event of a number: the first that was declared has 1
abbrev pub values_emission : List Definition → ℕ → ℕ → ℤ → List FieldValue → Request
values_emission events number cpu pid values = emission_of (event_of events number) cpu pid values

-- that of one by values, after these events
abbrev pub emission_by : List Definition → ValuesEmission → Request
emission_by events emission = values_emission events emission.event emission.cpu emission.pid emission.values.now
