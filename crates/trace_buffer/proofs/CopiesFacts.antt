-- What copies of rings show.
use Rattle.std.proofs.Common.{◌≡◌, ℕ, zero, suc, ◌+◌, ◌<◌, List, [], ◌∷◌, ◌++◌, length, map, take, get_or, sum_by, Result, Ok, Err, IfOk, refl, sym, ap, ◌∙◌, arith}
use Rattle.std.specs.declared.alloc.AllocError.{AllocError}
use Rattle.std.proofs.lemmas.List.{append_assoc, append-nil}
use Rattle.std.proofs.lemmas.List.Sums.{sum_by-cons}
use Rattle.page_ring.specs.Account.{readings_of}
use Rattle.page_ring.specs.Copies.{Copied, copied_of}
use Rattle.page_ring.specs.Events.{Event}
use Rattle.trace_buffer.specs.Copies.{copies_of, copied_from, copied_count, merged_copies}
use Rattle.page_ring.specs.Shown as rings
use Rattle.trace_buffer.specs.Buffers.{Seen, StandsFor}
use Rattle.trace_buffer.specs.Families.{CpuReading, on_cpu, events_of, kept_count}
use Rattle.trace_buffer.specs.Orders.{kept_from, merged, by_timestamp}

-- the records of one CPU more
pub copied_from-more : (cpu i place : ℕ) (copies : List Copied) (d : Copied) → place ≡ cpu + i → i < length copies
    → copied_from cpu (take (i + 1) copies) ≡ copied_from cpu (take i copies) ++ map (on_cpu place) (get_or copies i d).readings
copied_from-more cpu i place [] d is inside = absurd (omega arith)
copied_from-more cpu zero place (copy ∷ copies) d is inside =
    let e : cpu ≡ place = omega arith in
    append-nil (map (on_cpu cpu) copy.readings) ∙ ap (λ (c : ℕ). map (on_cpu c) copy.readings) e
copied_from-more cpu (suc i) place (copy ∷ copies) d is inside =
    let here = map (on_cpu cpu) copy.readings in
    let e : suc i + 1 ≡ suc (i + 1) = omega arith in
    ap (λ (n : ℕ). copied_from cpu (take n (copy ∷ copies))) e
    ∙ ap (λ (rest : List CpuReading). here ++ rest) (copied_from-more (cpu + 1) i place copies d (omega arith) (omega arith))
    ∙ sym (append_assoc here (copied_from (cpu + 1) (take i copies)) (map (on_cpu place) (get_or copies i d).readings))

-- the copies of a family have its records
pub copied_from-family : (pages page_bytes cpu : ℕ) (family : List (List Event))
    → copied_from cpu (copies_of pages page_bytes family) ≡ kept_from pages page_bytes cpu family
copied_from-family pages page_bytes cpu [] = refl
copied_from-family pages page_bytes cpu (events ∷ family) = rw (copied_from-family pages page_bytes (cpu + 1) family) refl

pub merged_copies-family : (pages page_bytes : ℕ) (family : List (List Event))
    → merged_copies (copies_of pages page_bytes family) ≡ merged pages page_bytes family
unfolding merged_copies merged
merged_copies-family pages page_bytes family = ap by_timestamp (copied_from-family pages page_bytes 0 family)

pub copied_count-family : (pages page_bytes : ℕ) (family : List (List Event)) → copied_count (copies_of pages page_bytes family) ≡ kept_count pages page_bytes family
copied_count-family pages page_bytes [] = refl
copied_count-family pages page_bytes (events ∷ family) =
    sum_by-cons (λ (copy : Copied). length copy.readings) (copied_of pages page_bytes events) (copies_of pages page_bytes family)
    ∙ ap (λ (n : ℕ). length (readings_of pages page_bytes events) + n) (copied_count-family pages page_bytes family)
    ∙ sym (sum_by-cons (λ (es : List Event). length (readings_of pages page_bytes es)) events family)

-- the copy of the ring of a CPU
pub copied_at : (buffer : Seen) (ring : rings.Seen) (cpu : ℕ) (result : Result Copied AllocError) → ring.pages ≡ buffer.pages → ring.page_bytes ≡ buffer.page_bytes
    → ((family : List (List Event)) → StandsFor buffer family → rings.StandsFor ring (events_of family cpu))
    → IfOk result (λ copy. (events : List Event) → rings.StandsFor ring events → copy ≡ copied_of ring.pages ring.page_bytes events)
    → IfOk result (λ copy. (family : List (List Event)) → StandsFor buffer family → copy ≡ copied_of buffer.pages buffer.page_bytes (events_of family cpu))
copied_at buffer ring cpu (Err e) p b stands h = h
copied_at buffer ring cpu (Ok copy) p b stands h = λ family s. h (events_of family cpu) (stands family s) ∙ rw (p, b) refl
