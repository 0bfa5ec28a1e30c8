-- Emissions are accounted for: as long as nothing empties them, the two sides of an instance's rings count each emission that it recorded
-- (ftrace.rst, "The File System", `per_cpu/cpu0/stats`; "Snapshot"). The newest request comes first.
use Rattle.std.specs.Prelude.{◌≡◌, ℕ, ◌+◌, ◌<◌, ◌==◌, Bool, false, not, ◌&&◌, ◌||◌, if◌then◌else◌, List, [], ◌∷◌, length, Option, Some, None}
use Rattle.page_ring.specs.declared.rings.RingStats.{RingStats}
use Rattle.trace_buffer.specs.Families.{cpu_stats}
use Rattle.trace_command.specs.Paths.{OfInstance, OfCpu}
use Rattle.trace_command.specs.Requests.{Request, WriteFile}
use Rattle.trace_command.specs.declared.command.Config.{Config}
use Rattle.trace_command.specs.declared.file_name.CpuFile.TheVariants as per_cpu
use Rattle.trace_command.specs.declared.file_name.TopFile.TheVariants as top
use Rattle.tracer_specification.specs.Emissions.{Emitted, emitted, is_recorded}
use Rattle.tracer_specification.specs.Rings.{rings, other_rings}
use Rattle.tracer_specification.specs.Settings.{is_same, makes}
use Rattle.tracer_specification.specs.Snapshots.{clears_spare, exchange_count, written_snapshot}
use Rattle.history_laws.specs.ReadOnce.{taken_by}

-- whether an emission that follows this past is one on a CPU that the instance records
abbrev pub is_recorded_on : Option (List ℕ) → ℕ → List Request → Option Emitted → Bool
is_recorded_on instance cpu past None = false
is_recorded_on instance cpu past (Some e) = e.cpu == cpu && is_recorded instance past e

-- the sum of what requests add since the instance was last made
abbrev pub since_made : (List Request → Request → ℕ) → Option (List ℕ) → List Request → ℕ
since_made adds instance [] = 0
since_made adds instance (request ∷ past) = if makes instance request then 0 else since_made adds instance past + adds past request

-- 1 for an emission on a CPU that the instance records
abbrev pub emissions_of : Option (List ℕ) → ℕ → List Request → Request → ℕ
emissions_of instance cpu past request = if is_recorded_on instance cpu past (emitted past request) then 1 else 0

-- how many emissions on a CPU it recorded since it was last made
abbrev pub recorded_count : Option (List ℕ) → ℕ → List Request → ℕ
recorded_count instance cpu past = since_made (emissions_of instance cpu) instance past

-- how many records of a CPU a read of one of its pipes shows
abbrev pub shown_of : Config → Option (List ℕ) → ℕ → List Request → Request → ℕ
shown_of g instance cpu past request = length (taken_by g instance cpu past request)

-- how many of them its pipes showed since it was last made
abbrev pub shown_count : Config → Option (List ℕ) → ℕ → List Request → ℕ
shown_count g instance cpu past = since_made (shown_of g instance cpu) instance past

-- whether a request empties a CPU's ring of the live side: `>` to the instance's `trace` or to the CPU's
abbrev pub empties_live : Option (List ℕ) → ℕ → Request → Bool
empties_live instance cpu (WriteFile other (Some (OfInstance top.Trace)) append text) = is_same instance other && not append
empties_live instance cpu (WriteFile other (Some (OfCpu of_cpu per_cpu.Trace)) append text) = is_same instance other && (not append && of_cpu == cpu)
empties_live instance cpu request = false

-- and whether one empties the rings of the other side: a number but 1 that is written to `snapshot`
abbrev pub empties_spare : Option (List ℕ) → Request → Bool
empties_spare instance (WriteFile other (Some (OfInstance top.Snapshot)) append text) = is_same instance other && clears_spare (written_snapshot text)
empties_spare instance request = false

-- whether some request did either since the instance was last made
abbrev pub was_emptied : Option (List ℕ) → ℕ → List Request → Bool
was_emptied instance cpu [] = false
was_emptied instance cpu (request ∷ past) =
    if makes instance request then false
    else empties_live instance cpu request || (empties_spare instance request || was_emptied instance cpu past)

-- how many records a ring's counts tell of that no read consumed: those kept, overwritten and refused
abbrev pub not_read : RingStats → ℕ
not_read stats = stats.entries + stats.overrun + stats.dropped

-- and with those that reads consumed
abbrev pub counted : RingStats → ℕ
counted stats = not_read stats + stats.read

-- Over both sides, the counts of a CPU are together the emissions on it that the instance recorded, if none of the CPU's rings was emptied.
abbrev pub EmissionsAreAccountedFor : Type 0
EmissionsAreAccountedFor =
    (g : Config) (past : List Request) (instance : Option (List ℕ)) (cpu : ℕ) → cpu < g.cpus → was_emptied instance cpu past ≡ false
    → counted (cpu_stats g.pages g.page_bytes (rings g instance past) cpu) + counted (cpu_stats g.pages g.page_bytes (other_rings g instance past) cpu)
    ≡ recorded_count instance cpu past

-- Those consumed are the records that pipes showed.
abbrev pub EmissionsAreShownOrCounted : Type 0
EmissionsAreShownOrCounted =
    (g : Config) (past : List Request) (instance : Option (List ℕ)) (cpu : ℕ) → cpu < g.cpus → was_emptied instance cpu past ≡ false
    → shown_count g instance cpu past + (not_read (cpu_stats g.pages g.page_bytes (rings g instance past) cpu)
    + not_read (cpu_stats g.pages g.page_bytes (other_rings g instance past) cpu))
    ≡ recorded_count instance cpu past

-- Until a snapshot is taken, the counts that the CPU's `stats` shows are all of them.
abbrev pub ShownCountsAccountForEmissions : Type 0
ShownCountsAccountForEmissions =
    (g : Config) (past : List Request) (instance : Option (List ℕ)) (cpu : ℕ) → cpu < g.cpus → was_emptied instance cpu past ≡ false
    → exchange_count instance past ≡ 0
    → counted (cpu_stats g.pages g.page_bytes (rings g instance past) cpu) ≡ recorded_count instance cpu past
