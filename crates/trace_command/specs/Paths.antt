-- The files of the tracing tree, and which file a path names.
use Rattle.std.specs.Prelude.{ℕ, Bool, ◌&&◌, not, ◌==◌, nat_lt, length, if◌then◌else◌, List, [], ◌∷◌, Option, Some, None, take, drop, codes}
use Rattle.std.specs.Option.{option_and_then, option_map}
use Rattle.std.specs.List.{slice_split}
use Rattle.std.specs.Str.{bytes_eq}
use Rattle.trace_lex.specs.Names.{is_name}
use Rattle.trace_lex.specs.Decimals.{decimal_number, has_leading_zero}
use Rattle.trace_command.specs.declared.file_name.CpuFile.{CpuFile}
use Rattle.trace_command.specs.declared.file_name.CpuFile.TheVariants as per_cpu
use Rattle.trace_command.specs.declared.file_name.EventFile.{EventFile}
use Rattle.trace_command.specs.declared.file_name.EventFile.TheVariants as per_event
use Rattle.trace_command.specs.declared.file_name.TopFile.{TopFile}
use Rattle.trace_command.specs.declared.file_name.TopFile.TheVariants as top

-- what is between the slashes of a path
abbrev pub parts : List ℕ → List (List ℕ)
parts path = slice_split (λ b. b == 47) path

-- a file: that of all declarations, one of an instance itself, one of a CPU, by its number, or one of an event, by its name. There is one system
-- of events, so the switch of all events is one file with two paths.
pub data File : Type 0 where
  SyntheticEvents : File
  OfInstance : TopFile → File
  OfCpu : ℕ → CpuFile → File
  OfEvent : List ℕ → EventFile → File

-- the number in `cpuN`: decimal, without leading zeros
abbrev pub cpu_number : List ℕ → Option ℕ
cpu_number part =
    if bytes_eq (take 3 part) (codes "cpu") && not (has_leading_zero (drop 3 part)) then decimal_number (drop 3 part) else None

-- a file at the top
unfoldable pub top_file : List ℕ → Option File
top_file name =
    if bytes_eq name (codes "trace") then Some (OfInstance top.Trace)
    else (if bytes_eq name (codes "trace_pipe") then Some (OfInstance top.TracePipe)
    else (if bytes_eq name (codes "trace_options") then Some (OfInstance top.TraceOptions)
    else (if bytes_eq name (codes "tracing_on") then Some (OfInstance top.TracingOn)
    else (if bytes_eq name (codes "snapshot") then Some (OfInstance top.Snapshot)
    else (if bytes_eq name (codes "synthetic_events") then Some SyntheticEvents else None)))))

-- a file of an option
unfoldable pub option_file : List ℕ → Option TopFile
option_file name = if bytes_eq name (codes "overwrite") then Some top.Overwrite else None

-- a file of all events, below `events`
unfoldable pub events_file : List ℕ → Option TopFile
events_file name = if bytes_eq name (codes "enable") then Some top.EventsEnable else None

-- a file of all events of the one system
unfoldable pub system_file : List ℕ → Option TopFile
system_file name =
    if bytes_eq name (codes "enable") then Some top.EventsEnable
    else (if bytes_eq name (codes "filter") then Some top.EventsFilter else None)

-- a file of a CPU
unfoldable pub cpu_file : List ℕ → Option CpuFile
cpu_file name =
    if bytes_eq name (codes "stats") then Some per_cpu.Stats
    else (if bytes_eq name (codes "trace") then Some per_cpu.Trace
    else (if bytes_eq name (codes "trace_pipe") then Some per_cpu.TracePipe else None))

-- a file of an event
unfoldable pub event_file : List ℕ → Option EventFile
event_file name =
    if bytes_eq name (codes "enable") then Some per_event.Enable
    else (if bytes_eq name (codes "filter") then Some per_event.Filter
    else (if bytes_eq name (codes "trigger") then Some per_event.Trigger
    else (if bytes_eq name (codes "hist") then Some per_event.Hist
    else (if bytes_eq name (codes "format") then Some per_event.Format else None))))

-- the file that the parts of a path name
abbrev pub file_in : List (List ℕ) → Option File
file_in (name ∷ []) = top_file name
file_in (first ∷ name ∷ []) =
    if bytes_eq first (codes "options") then option_map OfInstance (option_file name)
    else (if bytes_eq first (codes "events") then option_map OfInstance (events_file name) else None)
file_in (first ∷ second ∷ name ∷ []) =
    if bytes_eq first (codes "per_cpu") then option_and_then (λ cpu. option_map (OfCpu cpu) (cpu_file name)) (cpu_number second)
    else (if bytes_eq first (codes "events") && bytes_eq second (codes "synthetic") then option_map OfInstance (system_file name) else None)
file_in (first ∷ second ∷ event ∷ name ∷ []) =
    if bytes_eq first (codes "events") && (bytes_eq second (codes "synthetic") && is_name event) then option_map (OfEvent event) (event_file name)
    else None
file_in _ = None

-- ---- where a path leads

-- the place where the tracing tree is mounted: a path may begin with it
unfoldable pub mount_point : List ℕ
mount_point = codes "/sys/kernel/tracing/"

-- a path without the mount point, which is cut off once
unfoldable pub below_mount_point : List ℕ → List ℕ
below_mount_point path = if bytes_eq (take (length mount_point) path) mount_point then drop (length mount_point) path else path

-- the parts `instances` and a name, which is one or more bytes
abbrev pub is_instance : List ℕ → List ℕ → Bool
is_instance first name = bytes_eq first (codes "instances") && nat_lt 0 (length name)

-- the instance that a path names, none for the top one, and the file there, if the rest of the path names one
pub record Address : Type 0 where
  pub instance : Option (List ℕ)
  pub file : Option File

-- events are declared at the top, and each other file is there in every instance
abbrev pub file_of_instance : Option File → Option File
file_of_instance (Some SyntheticEvents) = None
file_of_instance file = file

-- the address that the parts of a path name
abbrev pub address_in : List (List ℕ) → Address
address_in (first ∷ name ∷ part ∷ rest) =
    if is_instance first name then record { instance = Some name; file = file_of_instance (file_in (part ∷ rest)) }
    else record { instance = None; file = file_in (first ∷ name ∷ part ∷ rest) }
address_in path = record { instance = None; file = file_in path }

-- the address that a path names
unfoldable pub address_of : List ℕ → Address
address_of path = address_in (parts (below_mount_point path))

-- the name of the instance in `instances/NAME`
abbrev pub instance_in : List (List ℕ) → Option (List ℕ)
instance_in (first ∷ name ∷ []) = if is_instance first name then Some name else None
instance_in _ = None

-- the name of the instance that a path is to make or to remove
unfoldable pub instance_of : List ℕ → Option (List ℕ)
instance_of path = instance_in (parts (below_mount_point path))
