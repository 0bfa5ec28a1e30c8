-- The counts and the lines of a copied buffer, and what they are for a family of lists of ring events that the buffer stood for.
use Rattle.std.proofs.Common.{◌≡◌, ℕ, ◌+◌, ◌<◌, ◌≤◌, List, [], ◌∷◌, ◌++◌, length, take, get_or, refl, sym, ap, ◌∙◌, Some, None, append_assoc, suc}
use Rattle.std.proofs.lemmas.List.{take_all, length-map}
use Rattle.std.proofs.lemmas.List.Sums.{sum_by_more, sum_by-cons}
use Rattle.std.proofs.lemmas.List.Folds.{flat_map-map}
use Rattle.std.specs.List.{flat_map, sum_by}
use Rattle.page_ring.specs.Events.{Event}
use Rattle.page_ring.specs.Account.{Reading}
use Rattle.page_ring.specs.Copies.{Copied, copied_of}
use Rattle.page_ring.specs.declared.rings.RingStats.{RingStats}
use Rattle.page_ring.specs.Shown as ring
use Rattle.trace_buffer.specs.Copies.{copies_of, merged_copies}
use Rattle.trace_buffer.specs.Families.{CpuReading, on_cpu, events_of}
use Rattle.trace_buffer.specs.Buffers.{Seen, EachStandsFor, StandsFor, cpus}
use Rattle.trace_buffer.proofs.CopiesFacts.{merged_copies-family}
use Rattle.trace_format.specs.Definitions.{Definition}
use Rattle.record_text.specs.RecordText.{record_line}
use Rattle.record_text.specs.TraceText.{trace_head}
use Rattle.record_text.specs.BufferText.{reading_line, entries_of_all, overrun_of_all, trace_text}
use Rattle.record_text.specs.CopyText.{copied_entries, copied_overrun, all_copied_text, cpu_copied_text}
use Rattle.record_text.specs.declared.trace_copies.CpuCopy.{CpuCopy}

each_length : (rings : List ring.Seen) (family : List (List Event)) → EachStandsFor rings family → length family ≡ length rings
each_length [] [] h = refl
each_length [] (events ∷ family) h = elim h [ ]
each_length (r ∷ rings) [] h = elim h [ ]
each_length (r ∷ rings) (events ∷ family) h = ap suc (each_length rings family h.1)

-- a family has a list for each CPU
pub stands_length : (buffer : Seen) (family : List (List Event)) → StandsFor buffer family → length family ≡ cpus buffer
unfolding StandsFor
stands_length buffer family h = each_length buffer.rings family h

-- ---- a sum over the CPUs

pub no_copy : Copied
no_copy = record { stats = record { entries = 0; overrun = 0; bytes = 0; oldest = 0; dropped = 0; read = 0 }; readings = [] }

-- the sum over the CPUs passed, with one more
pub sum_with_next : (f : Copied → ℕ) (copies : List Copied) (cpu sum n : ℕ) → cpu < length copies → sum ≡ sum_by f (take cpu copies)
    → n ≡ f (get_or copies cpu no_copy) → sum + n ≡ sum_by f (take (cpu + 1) copies)
sum_with_next f copies cpu sum n inside passed next =
    let more = sum_by_more f copies cpu no_copy inside in
    cc

-- the sum over all
pub sum_of_all : (f : Copied → ℕ) (copies : List Copied) (cpu sum : ℕ) → length copies ≤ cpu → sum ≡ sum_by f (take cpu copies) → sum ≡ sum_by f copies
sum_of_all f copies cpu sum end passed = passed ∙ ap (λ (cs : List Copied). sum_by f cs) (take_all cpu copies end)

-- the sum over a family's copies
sum_of_family : (f : Copied → ℕ) (pages page_bytes : ℕ) (family : List (List Event))
    → sum_by f (copies_of pages page_bytes family) ≡ sum_by (λ events. f (copied_of pages page_bytes events)) family
sum_of_family f pages page_bytes [] = refl
sum_of_family f pages page_bytes (events ∷ family) =
    sum_by-cons f (copied_of pages page_bytes events) (copies_of pages page_bytes family)
    ∙ ap (λ (n : ℕ). f (copied_of pages page_bytes events) + n) (sum_of_family f pages page_bytes family)
    ∙ sym (sum_by-cons (λ (es : List Event). f (copied_of pages page_bytes es)) events family)

-- ---- what is written of a copy

pub all_copied : (events : List Definition) (copies : List Copied) (kept overrun count : ℕ) (records : List CpuReading) (out headed new : List ℕ)
    → kept ≡ copied_entries copies → overrun ≡ copied_overrun copies → count ≡ length copies → records ≡ merged_copies copies
    → headed ≡ out ++ trace_head kept (kept + overrun) count → new ≡ headed ++ flat_map (reading_line events) records
    → new ≡ out ++ all_copied_text events copies
unfolding all_copied_text
all_copied events copies kept overrun count records out headed new kept_is overrun_is count_is records_is headed_is new_is =
    rw (new_is, headed_is, append_assoc, kept_is, overrun_is, count_is, records_is) refl

pub cpu_copied : (events : List Definition) (copy : CpuCopy) (stats : RingStats) (records : List Reading) (out headed new : List ℕ)
    → stats ≡ copy.ring.stats → records ≡ copy.ring.readings
    → headed ≡ out ++ trace_head stats.entries (stats.entries + stats.overrun) copy.cpus
    → new ≡ headed ++ flat_map (λ (r : Reading). record_line events copy.cpu r.rec) records
    → new ≡ out ++ cpu_copied_text events copy
unfolding cpu_copied_text
cpu_copied events copy stats records out headed new stats_is records_is headed_is new_is =
    rw (new_is, headed_is, append_assoc, stats_is, records_is) refl

-- ---- a copy of a buffer shows what the buffer does

pub text_of_all : (events : List Definition) (pages page_bytes : ℕ) (family : List (List Event)) (copies : List Copied)
    → copies ≡ copies_of pages page_bytes family → all_copied_text events copies ≡ trace_text events pages page_bytes family None
unfolding all_copied_text trace_text
text_of_all events pages page_bytes family copies is =
    let entries : copied_entries (copies_of pages page_bytes family) ≡ entries_of_all pages page_bytes family
    = sum_of_family (λ (c : Copied). c.stats.entries) pages page_bytes family in
    let overrun : copied_overrun (copies_of pages page_bytes family) ≡ overrun_of_all pages page_bytes family
    = sum_of_family (λ (c : Copied). c.stats.overrun) pages page_bytes family in
    let count : length (copies_of pages page_bytes family) ≡ length family = length-map family (copied_of pages page_bytes) in
    rw (is, entries, overrun, count, merged_copies-family pages page_bytes family) refl

pub text_of_cpu : (events : List Definition) (pages page_bytes : ℕ) (family : List (List Event)) (cpu count : ℕ) (ring : Copied)
    → count ≡ length family → ring ≡ copied_of pages page_bytes (events_of family cpu)
    → cpu_copied_text events (record { cpu = cpu; cpus = count; ring = ring }) ≡ trace_text events pages page_bytes family (Some cpu)
unfolding cpu_copied_text trace_text
text_of_cpu events pages page_bytes family cpu count ring count_is ring_is =
    rw (count_is, ring_is, flat_map-map (reading_line events) (on_cpu cpu)) refl
