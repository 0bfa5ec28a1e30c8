-- What requests come to for one ring, a CPU's of one side of an instance, since it was new or emptied: its counts, and what pipes showed of it
-- (ftrace.rst, "The File System", `per_cpu/cpu0/stats`, `trace_pipe`). The newest request comes first.
use Rattle.std.specs.Prelude.{◌≡◌, ℕ, ◌+◌, ◌<◌, ◌==◌, Bool, ◌||◌, if◌then◌else◌, List, [], ◌∷◌, sum_by, Option}
use Rattle.trace_buffer.specs.Families.{cpu_readings, cpu_stats}
use Rattle.trace_command.specs.Requests.{Request}
use Rattle.trace_command.specs.declared.command.Config.{Config}
use Rattle.tracer_specification.specs.Rings.{rings_of_side}
use Rattle.tracer_specification.specs.Settings.{makes}
use Rattle.tracer_specification.specs.Snapshots.{live_side}
use Rattle.history_laws.specs.AccountedFor.{counted, emissions_of, empties_live, empties_spare, not_read, shown_of}
use Rattle.history_laws.specs.ReadOnce.{taken_by}

-- whether a request that follows this past empties a CPU's ring of a side, 0 or 1, or makes it anew
abbrev pub empties_ring : Option (List ℕ) → ℕ → ℕ → List Request → Request → Bool
empties_ring instance side cpu past request =
    makes instance request || (if side == live_side instance past then empties_live instance cpu request else empties_spare instance request)

-- the sum of what requests add to the ring, those since the newest that emptied it. They add to the side that is live
abbrev pub since_new : (List Request → Request → ℕ) → Option (List ℕ) → ℕ → ℕ → List Request → ℕ
since_new adds instance side cpu [] = 0
since_new adds instance side cpu (request ∷ past) =
    if empties_ring instance side cpu past request then 0
    else since_new adds instance side cpu past + (if side == live_side instance past then adds past request else 0)

-- the lost records of a CPU of which a read of a pipe tells
abbrev pub lost_of : Config → Option (List ℕ) → ℕ → List Request → Request → ℕ
lost_of g instance cpu past request = sum_by (λ r. r.lost) (taken_by g instance cpu past request)

-- ---- what they come to

-- the counts of a ring are together the emissions that were recorded in it
abbrev pub RingsCountEmissions : Type 0
RingsCountEmissions =
    (g : Config) (past : List Request) (instance : Option (List ℕ)) (side cpu : ℕ) → cpu < g.cpus
    → counted (cpu_stats g.pages g.page_bytes (rings_of_side g instance side past) cpu) ≡ since_new (emissions_of instance cpu) instance side cpu past

-- its `read` is the records that pipes showed of it
abbrev pub ReadIsWhatPipesShowed : Type 0
ReadIsWhatPipesShowed =
    (g : Config) (past : List Request) (instance : Option (List ℕ)) (side cpu : ℕ)
    → (cpu_stats g.pages g.page_bytes (rings_of_side g instance side past) cpu).read ≡ since_new (shown_of g instance cpu) instance side cpu past

-- so those that pipes showed, and those that it keeps, overwrote and refused, are together all that were recorded in it
abbrev pub RingsAreAccountedFor : Type 0
RingsAreAccountedFor =
    (g : Config) (past : List Request) (instance : Option (List ℕ)) (side cpu : ℕ) → cpu < g.cpus
    → since_new (shown_of g instance cpu) instance side cpu past + not_read (cpu_stats g.pages g.page_bytes (rings_of_side g instance side past) cpu)
    ≡ since_new (emissions_of instance cpu) instance side cpu past

-- its `overrun` is the lost records of which pipes told and those of which its kept records are going to tell
abbrev pub LossesAreTold : Type 0
LossesAreTold =
    (g : Config) (past : List Request) (instance : Option (List ℕ)) (side cpu : ℕ) → 0 < g.pages
    → let family = rings_of_side g instance side past in
    (cpu_stats g.pages g.page_bytes family cpu).overrun
    ≡ since_new (lost_of g instance cpu) instance side cpu past + sum_by (λ r. r.lost) (cpu_readings g.pages g.page_bytes family cpu)

-- so where nothing is kept, pipes told of all of them
abbrev pub LostAddsUp : Type 0
LostAddsUp =
    (g : Config) (past : List Request) (instance : Option (List ℕ)) (side cpu : ℕ) → 0 < g.pages
    → let family = rings_of_side g instance side past in
    cpu_readings g.pages g.page_bytes family cpu ≡ []
    → (cpu_stats g.pages g.page_bytes family cpu).overrun ≡ since_new (lost_of g instance cpu) instance side cpu past
