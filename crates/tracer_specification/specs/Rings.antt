-- What the requests that were done brought to the rings of an instance: to those of the side that is live, and to those of the spare one
-- (ring-buffer-design.rst; ftrace.rst, "Instances", "Snapshot"). The newest request comes first, the newest event of a ring last.
use Rattle.std.specs.Prelude.{ℕ, ◌-◌, ◌==◌, min, Bool, false, ◌&&◌, if◌then◌else◌, List, [], ◌∷◌, length, replicate, Option, Some, None}
use Rattle.page_ring.specs.Events as ring
use Rattle.trace_buffer.specs.Families.{with_events, with_cleared, all_cleared, cpu_readings, kept_count}
use Rattle.trace_buffer.specs.Orders.{Consumed, consume_any, taken_of_cpu, after_cpu_reads}
use Rattle.trace_command.specs.Paths.{File, OfInstance, OfCpu}
use Rattle.trace_command.specs.declared.file_name.CpuFile.TheVariants as per_cpu
use Rattle.trace_command.specs.declared.file_name.TopFile.TheVariants as top
use Rattle.tracer_specification.specs.Emissions.{Emitted, emitted, emitted_bytes, is_recorded}
use Rattle.tracer_specification.specs.Settings.{is_same, makes, overwrites}
use Rattle.tracer_specification.specs.Snapshots.{clears_spare, has_spare, live_side, written_snapshot}
use Rattle.trace_command.specs.Requests.{Request, Emission, WriteFile, ReadFile}
use Rattle.trace_command.specs.declared.command.Config.{Config}

-- ---- the rings of a side

-- how many records a read with this limit consumes, of so many that are kept
abbrev pub up_to_limit : Option ℕ → ℕ → ℕ
up_to_limit None kept = kept
up_to_limit (Some limit) kept = min limit kept

-- the rings of a side of an instance that was just made: a list of events for each CPU
abbrev pub new_rings : Config → List (List ring.Event)
new_rings g = replicate g.cpus []

-- the rings of the live side after an emission that follows this past
abbrev pub with_emitted : Option (List ℕ) → List Request → Option Emitted → List (List ring.Event) → List (List ring.Event)
with_emitted instance past None family = family
with_emitted instance past (Some e) family =
    if is_recorded instance past e then with_events e.cpu (ring.Put (emitted_bytes e) (overwrites instance past) ∷ []) family else family

-- the rings after a write to a file of the instance: `>` to `trace` empties every ring, and to a CPU's trace file that CPU's ring; `>>`
-- empties none
abbrev pub rings_after_write : Bool → Option File → List (List ring.Event) → List (List ring.Event)
rings_after_write false (Some (OfInstance top.Trace)) family = all_cleared family
rings_after_write false (Some (OfCpu cpu per_cpu.Trace)) family = with_cleared cpu family
rings_after_write append file family = family

-- a read of the pipe of all CPUs: what it consumes, and the rings after it
abbrev pub pipe_read : Config → Option ℕ → List (List ring.Event) → Consumed
pipe_read g limit family = consume_any g.pages g.page_bytes (up_to_limit limit (kept_count g.pages g.page_bytes family)) family

-- and one of a CPU's pipe
abbrev pub cpu_pipe_read : Config → ℕ → Option ℕ → List (List ring.Event) → Consumed
cpu_pipe_read g cpu limit family =
    let reads = up_to_limit limit (length (cpu_readings g.pages g.page_bytes family cpu)) in
    record { taken = taken_of_cpu g.pages g.page_bytes cpu reads family; family = after_cpu_reads cpu reads family }

-- the rings after a read of a file of the instance: a pipe consumes
abbrev pub rings_after_read : Config → Option ℕ → Option File → List (List ring.Event) → List (List ring.Event)
rings_after_read g limit (Some (OfInstance top.TracePipe)) family = (pipe_read g limit family).family
rings_after_read g limit (Some (OfCpu cpu per_cpu.TracePipe)) family = (cpu_pipe_read g cpu limit family).family
rings_after_read g limit file family = family

-- the rings of the live side after a request that follows this past
abbrev pub rings_after : Config → Option (List ℕ) → List Request → Request → List (List ring.Event) → List (List ring.Event)
rings_after g instance past (WriteFile other file append text) family = if is_same instance other then rings_after_write append file family else family
rings_after g instance past (ReadFile other file limit) family = if is_same instance other then rings_after_read g limit file family else family
rings_after g instance past (Emission name cpu pid pairs) family = with_emitted instance past (emitted past (Emission name cpu pid pairs)) family
rings_after g instance past request family = if makes instance request then new_rings g else family

-- the rings of the spare side after a request: `snapshot` empties them where a number other than 1 is written to it, and nothing else does but
-- that the instance is made
abbrev pub spare_after : Config → Option (List ℕ) → Request → List (List ring.Event) → List (List ring.Event)
spare_after g instance (WriteFile other (Some (OfInstance top.Snapshot)) append text) family =
    if is_same instance other && clears_spare (written_snapshot text) then all_cleared family else family
spare_after g instance request family = if makes instance request then new_rings g else family

-- the events of a side's rings, 0 or 1, since the instance was made or they were emptied: a list for each CPU, the newest event of each last.
-- What is done falls to the side that is live before it is done.
abbrev pub rings_of_side : Config → Option (List ℕ) → ℕ → List Request → List (List ring.Event)
rings_of_side g instance side [] = new_rings g
rings_of_side g instance side (request ∷ past) =
    if side == live_side instance past then rings_after g instance past request (rings_of_side g instance side past)
    else spare_after g instance request (rings_of_side g instance side past)

-- ---- the rings of an instance

-- those of the live side, which all files show but `snapshot`
abbrev pub rings : Config → Option (List ℕ) → List Request → List (List ring.Event)
rings g instance past = rings_of_side g instance (live_side instance past) past

-- and those of the other side, whether it is there or not
abbrev pub other_rings : Config → Option (List ℕ) → List Request → List (List ring.Event)
other_rings g instance past = rings_of_side g instance (1 - live_side instance past) past

-- those of the spare, where there is one
abbrev pub spare_rings : Config → Option (List ℕ) → List Request → Option (List (List ring.Event))
spare_rings g instance past = if has_spare instance past then Some (other_rings g instance past) else None
