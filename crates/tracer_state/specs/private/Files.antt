-- Where paths lead: what was found for one, or why it is refused.
use Rattle.std.specs.Prelude.{◌≡◌, ℕ, ◌<◌, nat_lt, true, false, List, length, slice_index_or, Option, Some, None, Result, Ok, Err, ⊤}
use Rattle.trace_format.specs.Definitions.{Definition}
use Rattle.trace_command.specs.Paths as paths
use Rattle.trace_command.specs.Paths.{Address}
use Rattle.trace_command.specs.Requests.{Request}
use Rattle.trace_command.specs.declared.command.Config.{Config}
use Rattle.trace_command.specs.declared.command.Reply.{Reply}
use Rattle.trace_command.specs.declared.refusal.Refusal.{Refusal}
use Rattle.trace_command.specs.declared.refusal.Refusal.TheVariants.{NoSuchCpu, NoSuchEvent}
use Rattle.tracer_specification.specs.Settings.{event_named_in, is_there}
use Rattle.tracer_specification.specs.History.{file_answer, instance_answer, missing}
use Rattle.trace_instance.specs.declared.file.File.{File}
use Rattle.tracer_state.specs.declared.resolve.Target.{Target}
use Rattle.tracer_state.specs.declared.resolve.Target.TheVariants as target
use Rattle.tracer_state.specs.declared.state.Named.{Named}
use Rattle.tracer_state.specs.declared.state.State.{State}
use Rattle.trace_instance.specs.Files.{IsThere, file_at, name_at}

-- the number of a CPU that is there
abbrev pub IsCpu : ℕ → ℕ → Result ℕ Refusal → Type 0
IsCpu number cpus (Ok cpu) = (number ≡ cpu) × (cpu < cpus)
IsCpu number cpus (Err refusal) = (nat_lt number cpus ≡ false) × (refusal ≡ NoSuchCpu)

-- the index of the event of this name
abbrev pub IsEventIndex : List Definition → List ℕ → Result ℕ Refusal → Type 0
IsEventIndex events name (Ok index) = (index < length events) × (name ≡ name_at events index)
IsEventIndex events name (Err refusal) = (event_named_in events name ≡ None) × (refusal ≡ NoSuchEvent)

-- what was found for a path's file: none where the path is that of the declarations
abbrev pub IsFound : Config → List Request → List Definition → paths.File → Result (Option File) Refusal → Type 0
IsFound g past events named (Ok None) = named ≡ paths.SyntheticEvents
IsFound g past events named (Ok (Some found)) = (named ≡ file_at events found) × IsThere g.cpus events found
IsFound g past events named (Err refusal) = missing g past named ≡ Some refusal

-- the instance at this index has the name
abbrev pub IsAt : State → ℕ → Option (List ℕ) → Type 0
IsAt state index name =
    (index < length state.instances.items) × ((d : Named) → (slice_index_or state.instances.items index d).name ≡ name)

-- what was found for an address, or why it is refused
abbrev pub IsResolved : Config → State → List Request → Address → Result Target Refusal → Type 0
IsResolved g state past address (Ok target.Declarations) =
    (is_there address.instance past ≡ true) × (address.file ≡ Some paths.SyntheticEvents)
IsResolved g state past address (Ok (target.Of index found)) =
    (is_there address.instance past ≡ true) × IsAt state index address.instance × (address.file ≡ Some (file_at state.catalog found))
    × IsThere g.cpus state.catalog found
IsResolved g state past address (Err refusal) =
    (answered : paths.File → Result Reply Refusal) → instance_answer address.instance past (file_answer g past answered address.file) ≡ Err refusal

-- what was found is there
abbrev pub IsTarget : ℕ → State → Target → Type 0
IsTarget cpus state target.Declarations = ⊤
IsTarget cpus state (target.Of index found) = (index < length state.instances.items) × IsThere cpus state.catalog found
