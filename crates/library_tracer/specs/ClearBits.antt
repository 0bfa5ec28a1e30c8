-- Clear bits of a mask: emissions of the events that have them change the clock alone (events.rst, "Using Event Tracing"; ftrace.rst, "The File System").
use Rattle.std.specs.Prelude.{◌≡◌, ℕ, ◌+◌, ◌-◌, ℤ, List, ◌++◌, length, All, Some, IsBitSet}
use Rattle.trace_command.specs.Requests.{Emission, Request}
use Rattle.trace_format.specs.Catalogs.{event_of}
use Rattle.trace_format.specs.Definitions.{Definition}
use Rattle.trace_format.specs.declared.field_value.FieldValue.{FieldValue}
use Rattle.trace_format.specs.declared.pair.Pair.{Pair}
use Rattle.tracer_specification.specs.Settings.{declared_events}
use Rattle.history_laws.specs.IdleEmissions.{OnlyTicks}
use Rattle.shared_mount.specs.LiveMountSeen.{SharedTerms}
use Rattle.shared_mount.specs.MountEntries.{EntrySeen, done_in}
use Rattle.shared_mount.specs.MountHistories.{WereTaken}
use Rattle.library_tracer.specs.Consoles.{values_asked}
use Rattle.library_tracer.specs.Masks.{IsMaskOf}
use Rattle.library_tracer.specs.declared.mask.Mask.{Mask}

-- the event of this number is declared by these entries, and its bit of the mask is clear
pub record HasClearBit (entries : List EntrySeen) (mask : Mask) (number : ℕ) (event : Definition) : Type 0 where
  pub declared : event_of (declared_events (done_in entries)) number ≡ Some event
  pub clear : ¬ IsBitSet mask.events (number - 1)

-- a command emits such an event: by its name, with any pairs, or by its number, with any values
pub data EmitsUnwanted (entries : List EntrySeen) (mask : Mask) (request : Request) : Type 0 where
  ByName : (number : ℕ) (event : Definition) (cpu : ℕ) (pid : ℤ) (pairs : List Pair) → HasClearBit entries mask number event
      → request ≡ Emission event.name cpu pid pairs → EmitsUnwanted entries mask request
  ByNumber : (number : ℕ) (event : Definition) (cpu : ℕ) (pid : ℤ) (values : List FieldValue) → HasClearBit entries mask number event
      → request ≡ values_asked number cpu pid values entries → EmitsUnwanted entries mask request

-- only such commands, of whichever threads or by the mount, were done in the turns after those that the mask is of
pub record IsQuietAfter (g : SharedTerms) (entries more : List EntrySeen) (mask : Mask) : Type 0 where
  pub taken : WereTaken g entries
  pub is : IsMaskOf entries mask
  pub all : All (EmitsUnwanted entries mask) (done_in more)

-- They change the clock alone, which counts each of them.
abbrev pub ClearBitsOnlyTick : Type 0
ClearBitsOnlyTick =
    (g : SharedTerms) (entries more : List EntrySeen) (mask : Mask) → IsQuietAfter g entries more mask
    → OnlyTicks (length (done_in more)) (done_in entries) (done_in (entries ++ more))

-- The mask stays as it is, but for the number of commands,
abbrev pub ClearBitsKeepTheMask : Type 0
ClearBitsKeepTheMask =
    (g : SharedTerms) (entries more : List EntrySeen) (mask : Mask) → IsQuietAfter g entries more mask
    → IsMaskOf (entries ++ more) (record mask { entries = mask.entries + length (done_in more) })

-- and an emission by values is of the same event, whose bit is clear or not.
abbrev pub ClearBitsKeepNumbers : Type 0
ClearBitsKeepNumbers =
    (g : SharedTerms) (entries more : List EntrySeen) (mask : Mask) (number cpu : ℕ) (pid : ℤ) (values : List FieldValue)
    → IsQuietAfter g entries more mask → values_asked number cpu pid values (entries ++ more) ≡ values_asked number cpu pid values entries
