-- The definitions once more, in the words of the subject.
use Rattle.std.specs.Prelude.{◌≡◌, ◌≢◌, ℕ, ◌-◌, ◌<◌, ◌≤◌, ◌==◌, nat_lt, min, List, [], ◌++◌, length, map, filter, Some, slice_get, slice_index_or}
use Rattle.std.specs.List.Sorted.{IsPermutation, IsNonDecreasingBy, IsStableByKey}
use Rattle.std.specs.Ordering.{nat_cmp}
use Rattle.trace_record.specs.Record.{timestamp}
use Rattle.page_ring.specs.Account.{Reading, first}
use Rattle.page_ring.specs.Events.{Event}
use Rattle.trace_buffer.specs.Buffers.{Seen, StandsFor, cpus}
use Rattle.trace_buffer.specs.Families.{CpuReading, on_cpu, events_of, any_has_waiting, cpu_has_waiting, cpu_readings, kept_count}
use Rattle.trace_buffer.specs.Orders.{kept_from, merged, consume_any, taken_of_cpu, after_cpu_reads}
use Rattle.trace_buffer.specs.Copies.{copies_of, copied_count, merged_copies}
use Rattle.trace_buffer.specs.CpuCounts.{after_reads_of_each, count_of}

-- a buffer stands for one list of events for each CPU
abbrev pub OneListEach : Type 0
OneListEach = (buffer : Seen) (family : List (List Event)) → StandsFor buffer family → length family ≡ cpus buffer

-- ---- merged order

-- the records that all rings keep: the CPUs don't fall, and those of a CPU are its ring's, in ring order
pub record IsByCpu (pages page_bytes : ℕ) (family : List (List Event)) (all : List CpuReading) : Type 0 where
  pub rising : IsNonDecreasingBy (λ r. r.cpu) all
  pub each : (cpu : ℕ) → filter (λ r. r.cpu == cpu) all ≡ map (on_cpu cpu) (cpu_readings pages page_bytes family cpu)

abbrev pub AllAreByCpu : Type 0
AllAreByCpu = (pages page_bytes : ℕ) (family : List (List Event)) → IsByCpu pages page_bytes family (kept_from pages page_bytes 0 family)

-- what is shown are all records; their timestamps don't fall, and records of one timestamp stand in the order that they have in all
pub record IsInTimeOrder (all shown : List CpuReading) : Type 0 where
  pub permutation : IsPermutation all shown
  pub rising : IsNonDecreasingBy (λ r. timestamp r.rec) shown
  pub ties : IsStableByKey (λ r. timestamp r.rec) nat_cmp all shown

abbrev pub MergedIsInTimeOrder : Type 0
MergedIsInTimeOrder =
    (pages page_bytes : ℕ) (family : List (List Event)) → IsInTimeOrder (kept_from pages page_bytes 0 family) (merged pages page_bytes family)

-- there is one such list
abbrev pub OneTimeOrder : Type 0
OneTimeOrder = (all shown other : List CpuReading) → IsInTimeOrder all shown → IsInTimeOrder all other → other ≡ shown

-- ---- copies

-- a copy has as many records as the rings keep
abbrev pub CopiesCountTheSame : Type 0
CopiesCountTheSame =
    (pages page_bytes : ℕ) (family : List (List Event)) → copied_count (copies_of pages page_bytes family) ≡ kept_count pages page_bytes family

-- and they are the same by timestamp
abbrev pub CopiesMergeTheSame : Type 0
CopiesMergeTheSame =
    (pages page_bytes : ℕ) (family : List (List Event)) → merged_copies (copies_of pages page_bytes family) ≡ merged pages page_bytes family

-- ---- pipe order

-- a record is the first that its CPU's ring keeps; no ring's first record is earlier, and those of lower CPUs are later
pub record IsEarliest (pages page_bytes : ℕ) (family : List (List Event)) (t : CpuReading) : Type 0 where
  pub begins : first (cpu_readings pages page_bytes family t.cpu) ≡ Some (record { lost = t.lost; rec = t.rec })
  pub none_earlier : (cpu : ℕ) (r : Reading) → first (cpu_readings pages page_bytes family cpu) ≡ Some r → timestamp t.rec ≤ timestamp r.rec
  pub lower_later : (cpu : ℕ) (r : Reading) → cpu < t.cpu → first (cpu_readings pages page_bytes family cpu) ≡ Some r → timestamp t.rec < timestamp r.rec

-- the record that each read takes is such a record of the rings as the reads before left them
abbrev pub EachReadTakesEarliest : Type 0
EachReadTakesEarliest =
    (pages page_bytes reads i : ℕ) (family : List (List Event)) (t : CpuReading)
    → slice_get (consume_any pages page_bytes reads family).taken i ≡ Some t
    → IsEarliest pages page_bytes (consume_any pages page_bytes i family).family t

-- ---- what reads consume

-- what each CPU's ring kept, with the lost counts, is what the reads took of it and then what it keeps afterwards
abbrev pub ReadsConsumeWhatTheyTake : Type 0
ReadsConsumeWhatTheyTake =
    (pages page_bytes reads cpu : ℕ) (family : List (List Event))
    → map (on_cpu cpu) (cpu_readings pages page_bytes family cpu)
    ≡ filter (λ t. t.cpu == cpu) (consume_any pages page_bytes reads family).taken
    ++ map (on_cpu cpu) (cpu_readings pages page_bytes (consume_any pages page_bytes reads family).family cpu)

-- the same of reads of one CPU
abbrev pub CpuReadsConsumeWhatTheyTake : Type 0
CpuReadsConsumeWhatTheyTake =
    (pages page_bytes cpu reads : ℕ) (family : List (List Event)) → cpu < length family
    → map (on_cpu cpu) (cpu_readings pages page_bytes family cpu)
    ≡ taken_of_cpu pages page_bytes cpu reads family
    ++ map (on_cpu cpu) (cpu_readings pages page_bytes (after_cpu_reads cpu reads family) cpu)

-- they leave the other CPUs as they were
abbrev pub OtherCpusStay : Type 0
OtherCpusStay =
    (cpu other reads : ℕ) (family : List (List Event)) → other ≢ cpu
    → events_of (after_cpu_reads cpu reads family) other ≡ events_of family other

-- reads of each CPU, as many as reads of all CPUs take of its records, leave what these leave
abbrev pub ReadsOfEachLeaveTheSame : Type 0
ReadsOfEachLeaveTheSame =
    (pages page_bytes reads : ℕ) (counts : List ℕ) (family : List (List Event))
    → ((cpu : ℕ) → cpu < length family → slice_index_or counts cpu 0 ≡ count_of cpu (consume_any pages page_bytes reads family).taken)
    → after_reads_of_each pages page_bytes counts family ≡ (consume_any pages page_bytes reads family).family

-- ---- how many records reads take

-- as many as there are reads, or as many as are kept; and the others stay
pub record TakesSoMany (pages page_bytes reads : ℕ) (family : List (List Event)) : Type 0 where
  pub taken : length (consume_any pages page_bytes reads family).taken ≡ min reads (kept_count pages page_bytes family)
  pub left : kept_count pages page_bytes (consume_any pages page_bytes reads family).family ≡ kept_count pages page_bytes family - reads
  pub at_end : kept_count pages page_bytes family ≤ reads → (cpu : ℕ)
      → cpu_readings pages page_bytes (consume_any pages page_bytes reads family).family cpu ≡ []

abbrev pub ReadsTakeSoMany : Type 0
ReadsTakeSoMany = (pages page_bytes reads : ℕ) (family : List (List Event)) → TakesSoMany pages page_bytes reads family

abbrev pub CpuReadsTakeSoMany : Type 0
CpuReadsTakeSoMany =
    (pages page_bytes cpu reads : ℕ) (family : List (List Event))
    → length (taken_of_cpu pages page_bytes cpu reads family) ≡ min reads (length (cpu_readings pages page_bytes family cpu))

-- a record waits exactly where consuming reads would take one
abbrev pub WaitingIsRead : Type 0
WaitingIsRead =
    (pages page_bytes reads : ℕ) (family : List (List Event)) → 0 < reads
    → any_has_waiting pages page_bytes family ≡ nat_lt 0 (length (consume_any pages page_bytes reads family).taken)

abbrev pub CpuWaitingIsRead : Type 0
CpuWaitingIsRead =
    (pages page_bytes cpu reads : ℕ) (family : List (List Event)) → 0 < reads
    → cpu_has_waiting pages page_bytes family cpu ≡ nat_lt 0 (length (taken_of_cpu pages page_bytes cpu reads family))
