-- Sums over CPUs.
use Rattle.std.proofs.Common.{◌≡◌, ℕ, zero, suc, ◌+◌, Bool, List, [], ◌∷◌, ◌++◌, length, map, sum_by, Some, None, if◌then◌else◌, refl, sym, ap, ◌∙◌, arith, ◌-◌}
use Rattle.std.specs.List.{flat_map}
use Rattle.std.proofs.lemmas.List.{length-append, length-map}
use Rattle.std.proofs.lemmas.List.Sorted.{length_permutation}
use Rattle.std.proofs.lemmas.List.Sums.{sum_by-cons}
use Rattle.page_ring.specs.Account.{readings_of, stats_of}
use Rattle.page_ring.specs.Events.{Event}
use Rattle.trace_buffer.specs.Families.{on_cpu, events_of, kept_count, cpu_readings, cpu_stats}
use Rattle.trace_buffer.specs.Orders.{kept_from, merged}
use Rattle.trace_buffer.proofs.MergeLaws.{merged_is_in_time_order}
use Rattle.record_text.specs.BufferText.{reading_line, trace_text, entries_of_all, overrun_of_all}
use Rattle.record_text.specs.SnapshotText.{snapshot_text}
use Rattle.record_text.specs.TraceText.{trace_head}
use Rattle.trace_command.specs.Requests.{Request}
use Rattle.trace_command.specs.declared.command.Config.{Config}
use Rattle.tracer_specification.specs.FileTexts.{shown_snapshot, shown_trace}
use Rattle.tracer_specification.specs.Rings.{rings, other_rings}
use Rattle.tracer_specification.specs.Settings.{declared_events}
use Rattle.tracer_specification.specs.Snapshots.{live_side}
use Rattle.tracer_specification.proofs.Sides.{side-has_all_cpus}
use Rattle.history_laws.specs.CpuSums.{over_cpus, written, CpuHeadHasItsCounts, HeadHasTheSums, ShownAreAllEntries, SnapshotHeadHasTheSums, WaitingAreAllEntries}
use Rattle.history_laws.proofs.RingReads.{readings-count}

-- ---- sums

-- the first CPU's, and those of the others
over-first : (n : ℕ) (of : ℕ → ℕ) → over_cpus (suc n) of ≡ of zero + over_cpus n (λ cpu. of (suc cpu))
over-first zero of = omega arith
over-first (suc n) of = let rest = over-first n of in omega (arith, rest)

over-both : (n : ℕ) (one other : ℕ → ℕ) → over_cpus n one + over_cpus n other ≡ over_cpus n (λ cpu. one cpu + other cpu)
over-both zero one other = refl
over-both (suc n) one other = let rest = over-both n one other in omega (arith, rest)

-- the lists of a family are those of its CPUs
over-family : (of : List Event → ℕ) (family : List (List Event)) → sum_by of family ≡ over_cpus (length family) (λ cpu. of (events_of family cpu))
over-family of [] = refl
over-family of (events ∷ family) =
    let rest = over-family of family in
    sum_by-cons of events family ∙ ap (λ (n : ℕ). of events + n) rest
    ∙ sym (over-first (length family) (λ cpu. of (events_of (events ∷ family) cpu)))

-- ---- records

pub readings-entries : (pages page_bytes : ℕ) (events : List Event) → length (readings_of pages page_bytes events) ≡ (stats_of pages page_bytes events).entries
unfolding stats_of
readings-entries pages page_bytes events = readings-count pages page_bytes events

kept-entries : (pages page_bytes : ℕ) (family : List (List Event)) → kept_count pages page_bytes family ≡ entries_of_all pages page_bytes family
kept-entries pages page_bytes [] = refl
kept-entries pages page_bytes (events ∷ family) =
    let here = readings-entries pages page_bytes events in
    let rest = kept-entries pages page_bytes family in
    let one = sum_by-cons (λ (es : List Event). length (readings_of pages page_bytes es)) events family in
    let other = sum_by-cons (λ (es : List Event). (stats_of pages page_bytes es).entries) events family in
    omega (arith, here, rest, one, other)

length-kept_from : (pages page_bytes cpu : ℕ) (family : List (List Event)) → length (kept_from pages page_bytes cpu family) ≡ kept_count pages page_bytes family
length-kept_from pages page_bytes cpu [] = refl
length-kept_from pages page_bytes cpu (events ∷ family) =
    let here = readings_of pages page_bytes events in
    let rest = length-kept_from pages page_bytes (cpu + 1) family in
    let one = sum_by-cons (λ (es : List Event). length (readings_of pages page_bytes es)) events family in
    let both = length-append (map (on_cpu cpu) here) (kept_from pages page_bytes (cpu + 1) family) in
    let mapped = length-map here (on_cpu cpu) in
    omega (arith, rest, one, both, mapped)

pub length-merged : (pages page_bytes : ℕ) (family : List (List Event)) → length (merged pages page_bytes family) ≡ kept_count pages page_bytes family
length-merged pages page_bytes family =
    let all = kept_from pages page_bytes 0 family in
    length_permutation all (merged pages page_bytes family) (merged_is_in_time_order pages page_bytes family).permutation
    ∙ length-kept_from pages page_bytes 0 family

-- ---- of an instance

entries-over : (pages page_bytes cpus : ℕ) (family : List (List Event)) → length family ≡ cpus
    → entries_of_all pages page_bytes family ≡ over_cpus cpus (λ cpu. (cpu_stats pages page_bytes family cpu).entries)
entries-over pages page_bytes cpus family all =
    over-family (λ es. (stats_of pages page_bytes es).entries) family
    ∙ ap (λ n. over_cpus n (λ cpu. (cpu_stats pages page_bytes family cpu).entries)) all

overrun-over : (pages page_bytes cpus : ℕ) (family : List (List Event)) → length family ≡ cpus
    → overrun_of_all pages page_bytes family ≡ over_cpus cpus (λ cpu. (cpu_stats pages page_bytes family cpu).overrun)
overrun-over pages page_bytes cpus family all =
    over-family (λ es. (stats_of pages page_bytes es).overrun) family
    ∙ ap (λ n. over_cpus n (λ cpu. (cpu_stats pages page_bytes family cpu).overrun)) all

written-over : (pages page_bytes cpus : ℕ) (family : List (List Event)) → length family ≡ cpus
    → entries_of_all pages page_bytes family + overrun_of_all pages page_bytes family
    ≡ over_cpus cpus (λ cpu. written (cpu_stats pages page_bytes family cpu))
written-over pages page_bytes cpus family all =
    let entries = entries-over pages page_bytes cpus family all in
    let overrun = overrun-over pages page_bytes cpus family all in
    let both = over-both cpus (λ cpu. (cpu_stats pages page_bytes family cpu).entries) (λ cpu. (cpu_stats pages page_bytes family cpu).overrun) in
    omega (arith, entries, overrun, both)

pub shown_are_all_entries : ShownAreAllEntries
shown_are_all_entries g past instance =
    let family = rings g instance past in
    length-merged g.pages g.page_bytes family ∙ kept-entries g.pages g.page_bytes family
    ∙ entries-over g.pages g.page_bytes g.cpus family (side-has_all_cpus g instance (live_side instance past) past)

pub waiting_are_all_entries : WaitingAreAllEntries
waiting_are_all_entries g past instance =
    let family = rings g instance past in
    kept-entries g.pages g.page_bytes family
    ∙ entries-over g.pages g.page_bytes g.cpus family (side-has_all_cpus g instance (live_side instance past) past)

-- a trace of all CPUs from the counts of each
all-shown : (g : Config) (past : List Request) (family : List (List Event)) → length family ≡ g.cpus
    → trace_text (declared_events past) g.pages g.page_bytes family None
    ≡ trace_head (over_cpus g.cpus (λ cpu. (cpu_stats g.pages g.page_bytes family cpu).entries))
    (over_cpus g.cpus (λ cpu. written (cpu_stats g.pages g.page_bytes family cpu))) g.cpus
    ++ flat_map (reading_line (declared_events past)) (merged g.pages g.page_bytes family)
unfolding trace_text
all-shown g past family all =
    let lines = flat_map (reading_line (declared_events past)) (merged g.pages g.page_bytes family) in
    let entries = entries-over g.pages g.page_bytes g.cpus family all in
    let both = written-over g.pages g.page_bytes g.cpus family all in
    ap (λ n. trace_head n (entries_of_all g.pages g.page_bytes family + overrun_of_all g.pages g.page_bytes family) (length family) ++ lines) entries
    ∙ ap (λ n. trace_head (over_cpus g.cpus (λ cpu. (cpu_stats g.pages g.page_bytes family cpu).entries)) n (length family) ++ lines) both
    ∙ ap (λ n. trace_head (over_cpus g.cpus (λ cpu. (cpu_stats g.pages g.page_bytes family cpu).entries))
    (over_cpus g.cpus (λ cpu. written (cpu_stats g.pages g.page_bytes family cpu))) n ++ lines) all

pub head_has_the_sums : HeadHasTheSums
unfolding shown_trace
head_has_the_sums g past instance = all-shown g past (rings g instance past) (side-has_all_cpus g instance (live_side instance past) past)

pub snapshot_head_has_the_sums : SnapshotHeadHasTheSums
unfolding shown_snapshot snapshot_text
snapshot_head_has_the_sums g past instance there =
    let family = other_rings g instance past in
    ap (λ (spare : Bool). snapshot_text (declared_events past) g.pages g.page_bytes (if spare then Some family else None)) there
    ∙ all-shown g past family (side-has_all_cpus g instance (1 - live_side instance past) past)

pub cpu_head_has_its_counts : CpuHeadHasItsCounts
unfolding shown_trace trace_text
cpu_head_has_its_counts g past instance cpu =
    let family = rings g instance past in
    let stats = cpu_stats g.pages g.page_bytes family cpu in
    let lines = flat_map (reading_line (declared_events past)) (map (on_cpu cpu) (cpu_readings g.pages g.page_bytes family cpu)) in (
      ap (λ n. trace_head stats.entries (written stats) n ++ lines) (side-has_all_cpus g instance (live_side instance past) past),
      readings-entries g.pages g.page_bytes (events_of family cpu),
    )
