-- Nothing is read twice: what pipes show of a CPU's ring goes on in time (ftrace.rst, "The File System", `trace_pipe`). The newest request comes
-- first.
use Rattle.std.specs.Prelude.{ℕ, ◌^◌, ◌<◌, ◌≤◌, ◌==◌, if◌then◌else◌, List, [], ◌∷◌, ◌++◌, length, Option, Some}
use Rattle.std.specs.List.{AllPairs, count_by}
use Rattle.trace_record.specs.Record.{timestamp}
use Rattle.trace_buffer.specs.Families.{CpuReading}
use Rattle.trace_command.specs.Paths.{OfInstance, OfCpu}
use Rattle.trace_command.specs.Requests.{Request, ReadFile}
use Rattle.trace_command.specs.declared.command.Config.{Config}
use Rattle.trace_command.specs.declared.file_name.CpuFile.TheVariants as per_cpu
use Rattle.trace_command.specs.declared.file_name.TopFile.TheVariants as top
use Rattle.tracer_specification.specs.Laws.{those_of}
use Rattle.tracer_specification.specs.Rings.{pipe_read, cpu_pipe_read, rings}
use Rattle.tracer_specification.specs.Settings.{is_same}
use Rattle.tracer_specification.specs.Snapshots.{live_side}

-- the records of a CPU that a read of one of the instance's pipes shows and consumes; of another request none
abbrev pub taken_by : Config → Option (List ℕ) → ℕ → List Request → Request → List CpuReading
taken_by g instance cpu past (ReadFile other (Some (OfInstance top.TracePipe)) limit) =
    if is_same instance other then those_of cpu (pipe_read g limit (rings g instance past)).taken else []
taken_by g instance cpu past (ReadFile other (Some (OfCpu of_cpu per_cpu.TracePipe)) limit) =
    if is_same instance other then those_of cpu (cpu_pipe_read g of_cpu limit (rings g instance past)).taken else []
taken_by g instance cpu past request = []

-- all that the requests so far showed, in the order in which they did
abbrev pub read_records : Config → Option (List ℕ) → ℕ → List Request → List CpuReading
read_records g instance cpu [] = []
read_records g instance cpu (request ∷ past) = read_records g instance cpu past ++ taken_by g instance cpu past request

-- and of one side, 0 or 1: while it was live
abbrev pub read_from_side : Config → Option (List ℕ) → ℕ → ℕ → List Request → List CpuReading
read_from_side g instance side cpu [] = []
read_from_side g instance side cpu (request ∷ past) =
    read_from_side g instance side cpu past ++ (if side == live_side instance past then taken_by g instance cpu past request else [])

-- At most one of the records of a CPU that pipes showed has a given timestamp, whatever was done, and whatever was emptied, exchanged or made again in
-- between. Each emission has its own, while there are fewer than 2^64 requests.
abbrev pub NothingIsReadTwice : Type 0
NothingIsReadTwice =
    (g : Config) (past : List Request) (instance : Option (List ℕ)) (cpu time : ℕ) → length past < 2 ^ 64
    → count_by (λ r. timestamp r.rec == time) (read_records g instance cpu past) ≤ 1

-- and the timestamps of those of one ring rise strictly
abbrev pub ReadTimesRise : Type 0
ReadTimesRise =
    (g : Config) (past : List Request) (instance : Option (List ℕ)) (side cpu : ℕ) → length past < 2 ^ 64
    → AllPairs (λ earlier later. timestamp earlier.rec < timestamp later.rec) (read_from_side g instance side cpu past)
