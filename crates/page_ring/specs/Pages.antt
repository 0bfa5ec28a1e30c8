-- The pages that a ring is made of, and how they show.
use Rattle.std.specs.Prelude.{◌≡◌, ℕ, ◌+◌, ◌<◌, ◌≤◌, nat_le, Bool, false, List, [], ◌∷◌, ◌++◌, length, map, flat_map, sum_by, take, drop, ⊤, if◌then◌else◌}
use Rattle.page_ring.specs.Cut.{Accepted}
use Rattle.page_ring.specs.StoredPage.{Stored, StoredPage}
use Rattle.page_ring.specs.declared.pages.Pages.{Pages}

-- a stored record on a page of this number
abbrev pub on_page : ℕ → Stored → Accepted
on_page page r = record { number = r.number; page = page; bytes = r.bytes }

-- the unread records of a page
abbrev pub stored : StoredPage → List Accepted
stored page = map (on_page page.number) page.records

-- all unread records, oldest first: the reader page's, those in the circle, the tail page's
abbrev pub kept_in : Pages → List Accepted
kept_in p = stored p.reader ++ flat_map stored p.circle.items ++ stored p.tail

-- the same as they are stored
abbrev pub unread_in : Pages → List Stored
unread_in p = p.reader.records ++ flat_map (λ page. page.records) p.circle.items ++ p.tail.records

-- how many bytes the unread records of a page take
abbrev pub bytes_on : StoredPage → ℕ
bytes_on page = sum_by (λ r. length r.bytes) (stored page)

-- the head page has to go where the tail page, whose number is given, moves on
abbrev pub head_is_in_the_way : ℕ → ℕ → List StoredPage → Bool
head_is_in_the_way pages tail [] = false
head_is_in_the_way pages tail (head ∷ _) = nat_le (head.number + pages) (tail + 1)

-- the head page, if it is in the way, and the others
abbrev pub overrun_head : ℕ → ℕ → List StoredPage → List StoredPage
overrun_head pages tail circle = if head_is_in_the_way pages tail circle then take 1 circle else []

abbrev pub cleared : ℕ → ℕ → List StoredPage → List StoredPage
cleared pages tail circle = if head_is_in_the_way pages tail circle then drop 1 circle else circle

-- the record is the first of these
abbrev pub IsFirst : Stored → List Accepted → Type 0
IsFirst r [] = ⊥
IsFirst r (x ∷ _) = (x.number ≡ r.number) × (x.bytes ≡ r.bytes)

-- the pages of the circle: their numbers rise from `low` up to the tail page's, less than a round behind it, and nothing on
-- them was read
abbrev pub IsCircle : ℕ → ℕ → ℕ → List StoredPage → Type 0
IsCircle pages tail low [] = ⊤
IsCircle pages tail low (p ∷ ps) =
    (low ≤ p.number) × (p.number < tail) × (tail < p.number + pages) × (p.filled ≡ bytes_on p) × (0 < length p.records) × IsCircle pages tail (p.number + 1) ps
