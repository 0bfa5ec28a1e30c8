-- What is known of each CPU's kept records bounds those of all.
use Rattle.std.proofs.Common.{◌≡◌, ℕ, suc, ◌+◌, ◌*◌, ◌<◌, ◌≤◌, List, [], ◌∷◌, length, arith}
use Rattle.std.proofs.lemmas.Grind.{common_steps}
use Rattle.std.proofs.lemmas.List.Sums.{sum_by-cons}
use Rattle.page_ring.specs.Account.{readings_of}
use Rattle.page_ring.specs.Events.{Event}
use Rattle.trace_buffer.specs.Families.{cpu_readings, kept_count}

-- what is small on each CPU is small in all
pub kept_count-small : (pages page_bytes most : ℕ) (family : List (List Event))
    → ((j : ℕ) → j < length family → length (cpu_readings pages page_bytes family j) ≤ most)
    → kept_count pages page_bytes family ≤ length family * most
kept_count-small pages page_bytes most [] small = omega arith
kept_count-small pages page_bytes most (events ∷ family) small =
    let first : length (readings_of pages page_bytes events) ≤ most = small 0 (omega arith) in
    let rest = kept_count-small pages page_bytes most family (λ j inside. small (suc j) (omega (arith, inside))) in
    let sum = sum_by-cons (λ (es : List Event). length (readings_of pages page_bytes es)) events family in
    grind (arith, common_steps, sum, first, rest)
