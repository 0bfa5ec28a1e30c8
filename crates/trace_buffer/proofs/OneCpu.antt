-- With one CPU, reads of all CPUs are reads of that one.
use Rattle.std.proofs.Common.{◌≡◌, ℕ, zero, suc, min, List, [], ◌∷◌, length, map, take, refl, sym, ap, ◌∙◌, arith}
use Rattle.std.proofs.lemmas.List.{take_min}
use Rattle.std.proofs.lemmas.List.Sums.{sum_by-cons}
use Rattle.page_ring.specs.Account.{Reading, readings_of}
use Rattle.page_ring.specs.Events.{Event}
use Rattle.page_ring.specs.Laws.{ReadingsAreAhead}
use Rattle.trace_buffer.specs.Families.{on_cpu, cpu_readings, kept_count}
use Rattle.trace_buffer.specs.Orders.{Consumed, consume_any, taken_of_cpu}
use Rattle.trace_buffer.specs.private.Nexts.{taken_in_order}
use Rattle.trace_buffer.proofs.Consumed.{taken_in_order-consumed, consumed-min}

taken_alone : (reads : ℕ) (readings : List Reading) → taken_in_order reads (readings ∷ []) ≡ map (on_cpu 0) (take reads readings)
taken_alone zero readings = refl
taken_alone (suc reads) [] = refl
taken_alone (suc reads) (r ∷ readings) = ap (λ rest. on_cpu 0 r ∷ rest) (taken_alone reads readings)

pub taken_of_one : ReadingsAreAhead → (pages page_bytes limit : ℕ) (family : List (List Event)) → length family ≡ 1
    → taken_of_cpu pages page_bytes 0 (min limit (length (cpu_readings pages page_bytes family 0))) family
    ≡ (consume_any pages page_bytes (min limit (kept_count pages page_bytes family)) family).taken
taken_of_one ahead pages page_bytes limit [] one = absurd (omega (arith, one))
taken_of_one ahead pages page_bytes limit (events ∷ []) one =
    let readings = readings_of pages page_bytes events in
    ap (map (on_cpu 0)) (take_min limit readings)
    ∙ sym (taken_alone limit readings)
    ∙ taken_in_order-consumed ahead pages page_bytes limit (events ∷ [])
    ∙ ap (λ (r : Consumed). r.taken) (sym (consumed-min ahead pages page_bytes limit (events ∷ [])))
taken_of_one ahead pages page_bytes limit (events ∷ others ∷ family) one = absurd (omega (arith, one))

pub kept_of_one : (pages page_bytes : ℕ) (family : List (List Event)) → length family ≡ 1
    → kept_count pages page_bytes family ≡ length (cpu_readings pages page_bytes family 0)
kept_of_one pages page_bytes [] one = absurd (omega (arith, one))
kept_of_one pages page_bytes (events ∷ []) one =
    omega (arith, sum_by-cons (λ (es : List Event). length (readings_of pages page_bytes es)) events [])
kept_of_one pages page_bytes (events ∷ others ∷ family) one = absurd (omega (arith, one))
