-- What follows for a sound ring.
use Rattle.std.proofs.Common.{◌≡◌, ℕ, ◌+◌, ◌-◌, ◌<◌, ◌≤◌, nat_lt, not, List, [], ◌∷◌, ◌++◌, length, map, flat_map, sum_by, Option, Some, refl, sym, ap, ◌∙◌, subst, arith, length-append}
use Rattle.std.proofs.lemmas.Bool.{not_from_false}
use Rattle.std.proofs.Common.{◌^◌}
use Rattle.std.proofs.lemmas.List.Filters.{length-filter_both, sum_by-filter_both}
use Rattle.std.proofs.lemmas.List.Sums.{sum_by_push}
use Rattle.page_ring.specs.declared.pages.Pages.{Pages}
use Rattle.page_ring.specs.StoredPage.{Stored}
use Rattle.page_ring.specs.declared.rings.Ring.TheInside.{Inside}
use Rattle.page_ring.specs.Cut.{Accepted}
use Rattle.page_ring.specs.Account.{is_overrun}
use Rattle.page_ring.specs.Pages.{on_page, stored, kept_in, head_is_in_the_way, overrun_head, cleared}
use Rattle.page_ring.specs.Sound.{IsSound, seen, IsStorable, page_after}
use Rattle.page_ring.specs.private.Step.{overrun_by, left_by, appended, moved}
use Rattle.page_ring.specs.Shown.{Shown, most_offered}
use Rattle.page_ring.specs.Writes.{MovesTail}
use Rattle.page_ring.proofs.Moves.{Appends, kept_appended, kept_with, kept_moved, arranged_moved, arranged_appended}
use Rattle.page_ring.proofs.RoomFacts.{kept_size}
use Rattle.page_ring.proofs.PageFacts.{AreLeft, all_append, all_weaker, near_left, reader_left, circle_left_at_tail, filter_none, filter_all, moved_records, lost_count, lost_size, loses_head, storable_count, rising_push, rising_filter, all_filter}

-- what stands on the reader page is never overrun
pub on_reader_left : (pages : ℕ) (reader : Option ℕ) (n page : ℕ) (rs : List Stored) → (0 < length rs → reader ≡ Some page) → AreLeft pages reader n (map (on_page page) rs)
on_reader_left pages reader n page [] h = tt
on_reader_left pages reader n page (r ∷ rs) h =
    let P : Option ℕ → Type 0 = λ o. AreLeft pages o n (map (on_page page) (r ∷ rs)) in
    subst P (sym (h (omega arith))) (reader_left pages n page (r ∷ rs))

pub all_left_at_tail : (a : Inside) → IsSound a → AreLeft a.page_count a.reader_page a.pages.tail.number (kept_in a.pages)
all_left_at_tail a s =
    let n = a.pages.tail.number in
    all_append _ (stored a.pages.reader ++ flat_map stored a.pages.circle.items) (stored a.pages.tail)
    (all_append _ (stored a.pages.reader) (flat_map stored a.pages.circle.items)
    (on_reader_left a.page_count a.reader_page n a.pages.reader.number a.pages.reader.records (λ k. (s.arranged.reader k).0))
    (circle_left_at_tail a.page_count n (page_after a.reader_page) a.reader_page a.pages.circle.items s.arranged.circle))
    (near_left a.page_count a.reader_page n n a.pages.tail.records (let k : 2 ≤ a.page_count = s.two_pages in omega arith))

pub none_at_tail : (a : Inside) → IsSound a → overrun_by a.page_count (seen a).shown a.pages.tail.number ≡ []
none_at_tail a s = filter_none _ (kept_in a.pages) (all_left_at_tail a s)

pub all_at_tail : (a : Inside) → IsSound a → left_by a.page_count (seen a).shown a.pages.tail.number ≡ kept_in a.pages
all_at_tail a s =
    filter_all _ (kept_in a.pages) (all_weaker _ _ (λ r h. not_from_false _ h) (kept_in a.pages) (all_left_at_tail a s))

-- what goes and what stays where the tail moves on
pub at_next : (a : Inside) → IsSound a → (overrun_by a.page_count (seen a).shown (a.pages.tail.number + 1) ≡ flat_map stored (overrun_head a.page_count a.pages.tail.number a.pages.circle.items)) × (left_by a.page_count (seen a).shown (a.pages.tail.number + 1) ≡ (stored a.pages.reader ++ flat_map stored (cleared a.page_count a.pages.tail.number a.pages.circle.items)) ++ stored a.pages.tail)
at_next a s =
    let n = a.pages.tail.number in
    moved_records a.page_count n a.reader_page (stored a.pages.reader) (stored a.pages.tail) a.pages.circle.items s.arranged.circle
    (on_reader_left a.page_count a.reader_page (n + 1) a.pages.reader.number a.pages.reader.records (λ k. (s.arranged.reader k).0))
    (near_left a.page_count a.reader_page (n + 1) n a.pages.tail.records (let k : 2 ≤ a.page_count = s.two_pages in omega arith))

pub lost_at_next : (a : Inside) → IsSound a → (lost : ℕ) → lost ≡ sum_by (λ p. length p.records) (overrun_head a.page_count a.pages.tail.number a.pages.circle.items) → lost ≡ length (overrun_by a.page_count (seen a).shown (a.pages.tail.number + 1))
lost_at_next a s lost h =
    h ∙ lost_count a.page_count a.pages.tail.number a.pages.circle.items ∙ ap length (sym (at_next a s).0)

-- something goes exactly if the head page is in the way
pub loses_at_next : (a : Inside) → IsSound a → head_is_in_the_way a.page_count a.pages.tail.number a.pages.circle.items ≡ nat_lt 0 (length (overrun_by a.page_count (seen a).shown (a.pages.tail.number + 1)))
loses_at_next a s =
    loses_head a.page_count a.pages.tail.number (page_after a.reader_page) a.pages.circle.items s.arranged.circle ∙ ap (λ (xs : List Accepted). nat_lt 0 (length xs)) (sym (at_next a s).0)

-- the counts of what goes are within the counts of all
pub lost_le_entries : (a : Inside) → IsSound a → (lost : ℕ) → lost ≡ sum_by (λ p. length p.records) (overrun_head a.page_count a.pages.tail.number a.pages.circle.items) → lost + length (left_by a.page_count (seen a).shown (a.pages.tail.number + 1)) ≡ a.entries
lost_le_entries a s lost h =
    let gone = lost_at_next a s lost h in
    let both = length-filter_both (is_overrun a.page_count a.reader_page (a.pages.tail.number + 1)) (λ r. not (is_overrun a.page_count a.reader_page (a.pages.tail.number + 1) r)) (λ _. refl) (kept_in a.pages) in
    let all : a.entries ≡ length (kept_in a.pages) = s.entries in
    rw gone (both ∙ sym all)

pub lost_le_bytes : (a : Inside) → IsSound a → (lost : ℕ) → lost ≡ sum_by (λ p. p.filled) (overrun_head a.page_count a.pages.tail.number a.pages.circle.items) → lost + sum_by (λ r. length r.bytes) (left_by a.page_count (seen a).shown (a.pages.tail.number + 1)) ≡ a.bytes
lost_le_bytes a s lost h =
    let gone : lost ≡ sum_by (λ r. length r.bytes) (overrun_by a.page_count (seen a).shown (a.pages.tail.number + 1)) =
    h ∙ lost_size a.page_count a.pages.tail.number (page_after a.reader_page) a.pages.circle.items s.arranged.circle ∙ ap (sum_by (λ r. length r.bytes)) (sym (at_next a s).0) in
    let both = sum_by-filter_both (is_overrun a.page_count a.reader_page (a.pages.tail.number + 1)) (λ r. not (is_overrun a.page_count a.reader_page (a.pages.tail.number + 1) r)) (λ _. refl) (λ (r : Accepted). length r.bytes) (kept_in a.pages) in
    rw gone (both ∙ sym s.bytes)

pub bytes_small : (a : Inside) → IsSound a → a.bytes ≤ 4182000
bytes_small a s =
    let sum : a.bytes ≡ sum_by (λ r. length r.bytes) (kept_in a.pages) = s.bytes in
    let size = kept_size a.page_count a.page_bytes a.pages s.few_pages s.short_pages s.buffers s.room in
    omega arith

-- so the kept records are few, however many were offered
pub entries_few : (a : Inside) → IsSound a → a.entries ≤ 2 ^ 32
entries_few a s =
    let count : a.entries ≡ length (kept_in a.pages) = s.entries in
    let sum : a.bytes ≡ sum_by (λ r. length r.bytes) (kept_in a.pages) = s.bytes in
    let size = storable_count (kept_in a.pages) s.storable in
    let small = bytes_small a s in
    omega arith

-- what the kept records are once the tail has moved on
pub kept_left : (a : Inside) (p : Pages) → IsSound a → MovesTail a.page_count a.reader_page a.pages p → kept_in p ≡ left_by a.page_count (seen a).shown (a.pages.tail.number + 1)
kept_left a p s moves = kept_moved a.page_count a.reader_page a.pages p moves s.arranged ∙ sym (at_next a s).1

shown_from : (x y : Shown) → x.kept ≡ y.kept → x.last_page ≡ y.last_page → x.last_filled ≡ y.last_filled → record y { kept = x.kept; last_page = x.last_page; last_filled = x.last_filled } ≡ y
shown_from x y k p f = rw (k, p, f) refl

-- a ring stays sound where a record is written on the tail page
pub sound_appended : (a : Inside) (p : Pages) (bytes : List ℕ) → IsSound a → Appends a.pages p a.accepted bytes
    → 16 ≤ length bytes → a.pages.tail.filled + length bytes ≤ a.page_bytes → a.accepted + a.dropped < most_offered
    → IsSound (record a { pages = p; entries = a.entries + 1; bytes = a.bytes + length bytes; accepted = a.accepted + 1 })
sound_appended a p bytes s did head fits few =
    let kept = kept_with a.pages p a.accepted bytes did in
    let short : a.page_bytes ≤ 4080 = s.short_pages in
    let count : a.entries ≡ length (kept_in a.pages) = s.entries in
    let sum : a.bytes ≡ sum_by (λ r. length r.bytes) (kept_in a.pages) = s.bytes in
    let number : p.tail.number ≡ a.pages.tail.number = did.tail_number in
    let filled : p.tail.filled ≡ a.pages.tail.filled + length bytes = did.tail_filled in
    let behind : a.pages.tail.number ≤ a.accepted = s.tail_number in
    record {
      two_pages = s.two_pages;
      few_pages = s.few_pages;
      short_pages = s.short_pages;
      entries = rw (kept, length-append) (omega arith);
      bytes = rw (kept, sum_by_push (λ (r : Accepted). length r.bytes)) (omega arith);
      numbered = rw kept (rising_push a.next a.accepted _ (kept_in a.pages) s.next refl s.numbered);
      storable = rw kept (all_append IsStorable (kept_in a.pages) _ s.storable ((head, omega arith), tt));
      next = let k : a.next ≤ a.accepted = s.next in omega arith;
      counted = let k : a.read + a.entries ≤ a.accepted = s.counted in omega arith;
      offered = omega arith;
      tail_number = omega arith;
      tail_begun = λ _. omega arith;
      tail_filled = omega arith;
      tail_next = did.tail_next;
      arranged = arranged_appended a.page_count a.reader_page a.pages p a.accepted bytes did s.arranged;
      buffers = did.count a.page_count s.buffers;
      room = did.room a.page_bytes fits s.room;
    }

pub shown_appended : (a : Inside) (p : Pages) (bytes : List ℕ) → Appends a.pages p a.accepted bytes → (seen (record a { pages = p; accepted = a.accepted + 1 })).shown ≡ appended (seen a).shown bytes
shown_appended a p bytes did =
    shown_from (seen (record a { pages = p; accepted = a.accepted + 1 })).shown (appended (seen a).shown bytes) (kept_appended a.pages p a.accepted bytes did) did.tail_number did.tail_filled

-- and where the tail moves on
pub sound_moved : (a : Inside) (p : Pages) (lost lost_bytes : ℕ) → IsSound a → lost ≡ sum_by (λ p. length p.records) (overrun_head a.page_count a.pages.tail.number a.pages.circle.items)
    → lost_bytes ≡ sum_by (λ p. p.filled) (overrun_head a.page_count a.pages.tail.number a.pages.circle.items)
    → 0 < a.pages.tail.filled → MovesTail a.page_count a.reader_page a.pages p
    → IsSound (record a { pages = p; entries = a.entries - lost; bytes = a.bytes - lost_bytes })
sound_moved a p lost lost_bytes s gone gone_bytes filled moves =
    let left = left_by a.page_count (seen a).shown (a.pages.tail.number + 1) in
    let kept : kept_in p ≡ left = kept_left a p s moves in
    let count = lost_le_entries a s lost gone in
    let sum = lost_le_bytes a s lost_bytes gone_bytes in
    let number : p.tail.number ≡ a.pages.tail.number + 1 = moves.tail_number in
    let none : p.tail.filled ≡ 0 = moves.tail_filled in
    let begun : a.pages.tail.number < a.accepted = s.tail_begun filled in
    record {
      two_pages = s.two_pages;
      few_pages = s.few_pages;
      short_pages = s.short_pages;
      entries = rw kept (omega arith);
      bytes = rw kept (omega arith);
      numbered = rw kept (rising_filter _ a.next a.accepted (kept_in a.pages) s.numbered);
      storable = rw kept (all_filter IsStorable _ (kept_in a.pages) s.storable);
      next = s.next;
      counted = let k : a.read + a.entries ≤ a.accepted = s.counted in omega arith;
      offered = s.offered;
      tail_number = omega arith;
      tail_begun = λ k. absurd (omega arith);
      tail_filled = omega arith;
      tail_next = moves.tail_next ∙ s.tail_next;
      arranged = arranged_moved a.page_count a.reader_page a.pages p s.two_pages filled moves s.arranged;
      buffers = moves.buffers.count a.page_count s.buffers;
      room = moves.buffers.room a.page_bytes s.room;
    }

pub shown_moved : (a : Inside) (p : Pages) → IsSound a → MovesTail a.page_count a.reader_page a.pages p → (seen (record a { pages = p })).shown ≡ moved a.page_count (seen a).shown
shown_moved a p s moves =
    shown_from (seen (record a { pages = p })).shown (moved a.page_count (seen a).shown) (kept_left a p s moves) moves.tail_number moves.tail_filled
