-- So many consuming reads of each CPU.
use Rattle.std.specs.Prelude.{ℕ, ◌==◌, min, List, [], ◌∷◌, ◌++◌, length, filter, replicate}
use Rattle.page_ring.specs.Account.{readings_of}
use Rattle.page_ring.specs.Events.{Event, Take}
use Rattle.trace_buffer.specs.Families.{CpuReading}

-- how many of some records are of a CPU
abbrev pub count_of : ℕ → List CpuReading → ℕ
count_of cpu records = length (filter (λ r. r.cpu == cpu) records)

-- the family after so many reads of CPU 0, so many of CPU 1, and so on, or as many as there are records; none of a CPU for which no number is
-- left
abbrev pub after_reads_of_each : ℕ → ℕ → List ℕ → List (List Event) → List (List Event)
after_reads_of_each pages page_bytes [] family = family
after_reads_of_each pages page_bytes counts [] = []
after_reads_of_each pages page_bytes (count ∷ counts) (events ∷ family) =
    (events ++ replicate (min count (length (readings_of pages page_bytes events))) Take) ∷ after_reads_of_each pages page_bytes counts family
