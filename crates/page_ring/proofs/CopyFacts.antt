-- What a copy of a ring shows.
use Rattle.std.proofs.Common.{◌≡◌, ℕ, ◌+◌, ◌<◌, ◌≤◌, ◌^◌, List, [], ◌∷◌, length, map, Result, Ok, Err, IfOk, refl, ◌∙◌, arith}
use Rattle.std.specs.declared.alloc.AllocError.{AllocError}
use Rattle.page_ring.specs.StoredPage.{Stored}
use Rattle.page_ring.specs.declared.pages.Pages.{Pages}
use Rattle.page_ring.specs.declared.rings.Ring.TheInside.{Inside}
use Rattle.page_ring.specs.Cut.{Accepted}
use Rattle.page_ring.specs.Account.{readings_from}
use Rattle.page_ring.specs.Pages.{on_page, kept_in, unread_in}
use Rattle.page_ring.specs.Copies.{Copied, copied_of}
use Rattle.page_ring.specs.Events.{Event}
use Rattle.page_ring.specs.Shown.{Seen, StandsFor, most_offered}
use Rattle.page_ring.specs.private.Step.{stats_shown, readings_shown}
use Rattle.page_ring.proofs.Stands.{stats_of_shown, readings_of_shown}
use Rattle.page_ring.specs.Sound.{IsSound, IsRising}
use Rattle.page_ring.proofs.Readings.{rising-unpaged, unpaged-kept, readings_unread, length-readings_from}
use Rattle.page_ring.proofs.SoundFacts.{entries_few}

-- the records of a copy are the ring's
pub copy_rising : (a : Inside) (p : Pages) → IsSound a → kept_in p ≡ kept_in a.pages → IsRising a.next most_offered (kept_in p)
copy_rising a p s e =
    let few : a.accepted + a.dropped ≤ most_offered = s.offered in
    rw e (rising_below a.next a.accepted most_offered (kept_in a.pages) (omega arith) s.numbered)
  where
    rising_below : (low high high' : ℕ) (xs : List Accepted) → high ≤ high' → IsRising low high xs → IsRising low high' xs
    rising_below low high high' [] l h = tt
    rising_below low high high' (x ∷ xs) l h = let k : x.number < high = h.1 in (h.0, omega arith, rising_below (x.number + 1) high high' xs l h.2)

pub copy_few : (a : Inside) (p : Pages) → IsSound a → kept_in p ≡ kept_in a.pages → length (kept_in p) ≤ 2 ^ 32
copy_few a p s e =
    let few = entries_few a s in
    let entries : a.entries ≡ length (kept_in a.pages) = s.entries in
    rw e (omega arith)

-- they are lent as they lie on the copy's pages
pub copy_lends : (next : ℕ) (p : Pages) (left : List Stored) → left ≡ unread_in p → IsRising next most_offered (kept_in p) → IsRising next most_offered (map (on_page 0) left)
copy_lends next p left e rising = rw (e, ← unpaged-kept p) (rising-unpaged next most_offered most_offered (kept_in p) (omega arith) rising)

pub copy_lends_few : (next : ℕ) (p : Pages) (left : List Stored) → left ≡ unread_in p → length (kept_in p) ≤ 2 ^ 32 → length (readings_from next (map (on_page 0) left)) ≤ 2 ^ 32
copy_lends_few next p left e few = rw (readings_unread next p left e, length-readings_from next (kept_in p)) few

-- what is copied of the visible facts is what the events say
pub copied_of_shown : (ring : Seen) (result : Result Copied AllocError) → IfOk result (λ copy. copy ≡ record { stats = stats_shown ring.shown; readings = readings_shown ring.shown })
    → IfOk result (λ copy. (events : List Event) → StandsFor ring events → copy ≡ copied_of ring.pages ring.page_bytes events)
copied_of_shown ring (Err e) h = h
copied_of_shown ring (Ok copy) h = λ events s. h ∙ rw (stats_of_shown ring events s, readings_of_shown ring events s) refl
