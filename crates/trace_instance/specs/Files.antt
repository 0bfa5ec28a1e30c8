-- Files of an instance that are there: a CPU by its number, an event by its index among the declared ones.
use Rattle.std.specs.Prelude.{ℕ, zero, suc, ◌<◌, List, [], ◌∷◌, length, ⊤}
use Rattle.trace_format.specs.Definitions.{Definition}
use Rattle.trace_command.specs.Paths as paths
use Rattle.trace_instance.specs.declared.file.File.{File}
use Rattle.trace_instance.specs.declared.file.File.TheVariants as file

-- the name of the event at an index
abbrev pub name_at : List Definition → ℕ → List ℕ
name_at [] index = []
name_at (event ∷ events) zero = event.name
name_at (event ∷ events) (suc index) = name_at events index

-- the file, as a path names it
abbrev pub file_at : List Definition → File → paths.File
file_at events (file.OfInstance named) = paths.OfInstance named
file_at events (file.OfCpu cpu named) = paths.OfCpu cpu named
file_at events (file.OfEvent event named) = paths.OfEvent (name_at events event) named

-- its CPU or its event is there
abbrev pub IsThere : ℕ → List Definition → File → Type 0
IsThere cpus events (file.OfInstance named) = ⊤
IsThere cpus events (file.OfCpu cpu named) = cpu < cpus
IsThere cpus events (file.OfEvent event named) = event < length events

-- its CPU is there
abbrev pub HasCpu : ℕ → File → Type 0
HasCpu cpus (file.OfCpu cpu named) = cpu < cpus
HasCpu cpus _ = ⊤

-- its event is there
abbrev pub HasEvent : List Definition → File → Type 0
HasEvent events (file.OfEvent event named) = event < length events
HasEvent events _ = ⊤
