-- What is told of all CPUs together is the sum of what is told of each (ftrace.rst, "The File System", `trace`, `per_cpu/cpu0/stats`; "Snapshot").
-- The newest request comes first.
use Rattle.std.specs.Prelude.{◌≡◌, ℕ, zero, suc, ◌+◌, true, List, ◌++◌, length, map, Option, Some, None}
use Rattle.std.specs.List.{flat_map}
use Rattle.page_ring.specs.declared.rings.RingStats.{RingStats}
use Rattle.trace_buffer.specs.Families.{on_cpu, cpu_readings, cpu_stats, kept_count}
use Rattle.trace_buffer.specs.Orders.{merged}
use Rattle.record_text.specs.BufferText.{reading_line}
use Rattle.record_text.specs.TraceText.{trace_head}
use Rattle.trace_command.specs.Requests.{Request}
use Rattle.trace_command.specs.declared.command.Config.{Config}
use Rattle.tracer_specification.specs.FileTexts.{shown_snapshot, shown_trace}
use Rattle.tracer_specification.specs.Rings.{rings, other_rings}
use Rattle.tracer_specification.specs.Settings.{declared_events}
use Rattle.tracer_specification.specs.Snapshots.{has_spare}

-- the sum over the CPUs 0 to n - 1
abbrev pub over_cpus : ℕ → (ℕ → ℕ) → ℕ
over_cpus zero of = 0
over_cpus (suc n) of = over_cpus n of + of n

-- the counts of a CPU that its `stats` shows
abbrev pub counts : Config → Option (List ℕ) → List Request → ℕ → RingStats
counts g instance past cpu = cpu_stats g.pages g.page_bytes (rings g instance past) cpu

-- and those of the other side
abbrev pub spare_counts : Config → Option (List ℕ) → List Request → ℕ → RingStats
spare_counts g instance past cpu = cpu_stats g.pages g.page_bytes (other_rings g instance past) cpu

-- the records of a ring that no read consumed: those kept and those overwritten. The head of a trace calls them written
abbrev pub written : RingStats → ℕ
written stats = stats.entries + stats.overrun

-- the head of a trace of all CPUs, from the counts of each
abbrev pub head_of_all : Config → (ℕ → RingStats) → List ℕ
head_of_all g of = trace_head (over_cpus g.cpus (λ cpu. (of cpu).entries)) (over_cpus g.cpus (λ cpu. written (of cpu))) g.cpus

-- ---- what they come to

-- all records that `trace` shows are as many as the CPUs' `entries` together
abbrev pub ShownAreAllEntries : Type 0
ShownAreAllEntries =
    (g : Config) (past : List Request) (instance : Option (List ℕ))
    → length (merged g.pages g.page_bytes (rings g instance past)) ≡ over_cpus g.cpus (λ cpu. (counts g instance past cpu).entries)

-- and so are those that a read of the pipe of all CPUs finds
abbrev pub WaitingAreAllEntries : Type 0
WaitingAreAllEntries =
    (g : Config) (past : List Request) (instance : Option (List ℕ))
    → kept_count g.pages g.page_bytes (rings g instance past) ≡ over_cpus g.cpus (λ cpu. (counts g instance past cpu).entries)

-- the head of `trace` has the sums of what the CPUs' `stats` show, and their number
abbrev pub HeadHasTheSums : Type 0
HeadHasTheSums =
    (g : Config) (past : List Request) (instance : Option (List ℕ))
    → shown_trace g instance past None
    ≡ head_of_all g (counts g instance past)
    ++ flat_map (reading_line (declared_events past)) (merged g.pages g.page_bytes (rings g instance past))

-- that of a CPU's `trace` has what its own `stats` shows, and so many records follow
abbrev pub CpuHeadHasItsCounts : Type 0
CpuHeadHasItsCounts =
    (g : Config) (past : List Request) (instance : Option (List ℕ)) (cpu : ℕ)
    → let kept = cpu_readings g.pages g.page_bytes (rings g instance past) cpu in
    (shown_trace g instance past (Some cpu)
    ≡ trace_head (counts g instance past cpu).entries (written (counts g instance past cpu)) g.cpus
    ++ flat_map (reading_line (declared_events past)) (map (on_cpu cpu) kept))
    × (length kept ≡ (counts g instance past cpu).entries)

-- that of `snapshot` has the sums of the other side
abbrev pub SnapshotHeadHasTheSums : Type 0
SnapshotHeadHasTheSums =
    (g : Config) (past : List Request) (instance : Option (List ℕ)) → has_spare instance past ≡ true
    → shown_snapshot g instance past
    ≡ head_of_all g (spare_counts g instance past)
    ++ flat_map (reading_line (declared_events past)) (merged g.pages g.page_bytes (other_rings g instance past))
