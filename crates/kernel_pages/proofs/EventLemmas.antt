-- The lengths of events, and the loop that writes those of rows.
use Rattle.std.proofs.Common.{◌≡◌, ℕ, ◌+◌, ◌-◌, ◌*◌, ◌/◌, ◌^◌, ◌<◌, ◌≤◌, ltb, leb, if◌then◌else◌, true, false, List, ◌∷◌, ◌++◌, length, sym, ap, ◌∙◌, subst, append_assoc, arith, length-append}
use Rattle.std.specs.Int.{w32, to_le_bytes}
use Rattle.kernel_pages.specs.declared.page_row.PageRow.{PageRow}
use Rattle.kernel_pages.specs.Pages.{data_event, extend_event, event_bytes, events_from, InTime}
use Rattle.kernel_pages.specs.Taking.{event_head_size}

pub length-data_event : (delta : ℕ) (bytes : List ℕ) → length (data_event delta bytes) ≡ (if leb (length bytes) 112 then 4 else 8) + length bytes
length-data_event delta bytes =
    elim (leb (length bytes) 112) as (λ b. length (if b then to_le_bytes w32 (length bytes / 4 + 32 * delta) ++ bytes else to_le_bytes w32 (32 * delta) ++ (to_le_bytes w32 (length bytes + 4) ++ bytes)) ≡ (if b then 4 else 8) + length bytes) [
      | true ↦ omega arith
      | false ↦ omega arith
    ]

pub length-event_bytes : (delta : ℕ) (bytes : List ℕ) → length (event_bytes delta bytes) ≡ event_head_size delta (length bytes) + length bytes
unfolding event_bytes
length-event_bytes delta bytes =
    elim (ltb delta (2 ^ 27)) as (λ b. length (if b then data_event delta bytes else extend_event delta ++ data_event 0 bytes) ≡ ((if b then 0 else 8) + (if leb (length bytes) 112 then 4 else 8)) + length bytes) [
      | true ↦ omega (arith, length-data_event delta bytes)
      | false ↦ omega (arith, length-data_event 0 bytes, length-append (extend_event delta) (data_event 0 bytes))
    ]

-- the first of the rows that are left
module _ (time : ℕ) (row : PageRow) (left rest : List PageRow) (first : left ≡ row ∷ rest) where
  pub first_in_time : InTime time left → (time ≤ row.time) × (row.time - time < 2 ^ 59) × InTime row.time rest
  first_in_time h = subst (InTime time) first h

  sizes : length (events_from time left) ≡ length (event_bytes (row.time - time) row.bytes) + length (events_from row.time rest)
  sizes = ap (λ rows. length (events_from time rows)) first ∙ length-append (event_bytes (row.time - time) row.bytes) (events_from row.time rest)

  pub first_is_small : length (events_from time left) ≤ 4080 → length row.bytes ≤ 4080
  first_is_small h = omega (arith, sizes, length-event_bytes (row.time - time) row.bytes)

  pub rest_is_small : length (events_from time left) ≤ 4080 → length (events_from row.time rest) ≤ 4080
  rest_is_small h = omega (arith, sizes)

  pub event_more : (old new all : List ℕ) → new ≡ old ++ event_bytes (row.time - time) row.bytes
      → old ++ events_from time left ≡ all → new ++ events_from row.time rest ≡ all
  event_more old new all written so_far =
      ap (λ bytes. bytes ++ events_from row.time rest) written
      ∙ append_assoc old (event_bytes (row.time - time) row.bytes) (events_from row.time rest)
      ∙ ap (λ rows. old ++ events_from time rows) (sym first)
      ∙ so_far
