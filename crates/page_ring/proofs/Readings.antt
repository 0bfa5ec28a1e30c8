-- What reads find, by the visible facts.
use Rattle.std.proofs.Common.{◌≡◌, ℕ, ◌+◌, ◌-◌, ◌<◌, ◌≤◌, ◌^◌, List, [], ◌∷◌, ◌++◌, length, map, flat_map, sum_by, Some, None, refl, sym, ap, ◌∙◌, subst, arith}
use Rattle.std.specs.List.{AllByRecursion, All}
use Rattle.std.specs.Option.{option_map}
use Rattle.std.proofs.lemmas.List.{map-append}
use Rattle.std.proofs.lemmas.List.Sums.{sum_by-cons}
use Rattle.std.proofs.lemmas.List.Elements.{All-from_recursion}
use Rattle.page_ring.specs.StoredPage.{Stored, StoredPage}
use Rattle.page_ring.specs.declared.pages.Pages.{Pages}
use Rattle.page_ring.specs.declared.pages.Taken.{Taken}
use Rattle.page_ring.specs.declared.rings.Ring.TheInside.{Inside}
use Rattle.page_ring.specs.Cut.{Accepted}
use Rattle.page_ring.specs.Account.{Reading, readings_from, first}
use Rattle.page_ring.specs.Shown.{Shown, most_offered}
use Rattle.page_ring.specs.Pages.{on_page, stored, kept_in, unread_in, IsFirst}
use Rattle.page_ring.specs.PageBuffers.{IsCleared}
use Rattle.page_ring.specs.Reads.{NothingUnread, TakesFirst}
use Rattle.page_ring.specs.Sound.{IsSound, seen, IsRising, IsStorable, page_after}
use Rattle.page_ring.specs.private.Step.{without_first, readings_shown}
use Rattle.page_ring.proofs.PageFacts.{circle_nonempty}
use Rattle.page_ring.proofs.SoundFacts.{entries_few}

pub circle_full : (a : Inside) → IsSound a → All (λ p. 0 < length p.records) a.pages.circle.items
circle_full a s =
    All-from_recursion (λ (p : StoredPage). 0 < length p.records) a.pages.circle.items (circle_nonempty a.page_count a.pages.tail.number (page_after a.reader_page) a.pages.circle.items s.arranged.circle)

-- the first reading, where there is a first record and where there is none
pub first_reading : (next : ℕ) (xs : List Accepted) (r : Stored) → IsFirst r xs → first (readings_from next xs) ≡ Some (record { lost = r.number - next; rec = r.bytes })
first_reading next [] r h = absurd h
first_reading next (x ∷ xs) r h = rw (h.0, h.1) refl

pub no_reading : (next : ℕ) (xs : List Accepted) → xs ≡ [] → first (readings_from next xs) ≡ None
no_reading next xs e = rw e refl

-- readings don't look at pages
abbrev pub unpaged : Accepted → Accepted
unpaged r = record r { page = 0 }

pub readings_from-unpaged : (next : ℕ) (xs : List Accepted) → readings_from next (map unpaged xs) ≡ readings_from next xs
readings_from-unpaged next [] = refl
readings_from-unpaged next (x ∷ xs) = rw (readings_from-unpaged (x.number + 1) xs) refl

pub rising-unpaged : (low high high' : ℕ) (xs : List Accepted) → high ≤ high' → IsRising low high xs → IsRising low high' (map unpaged xs)
rising-unpaged low high high' [] l h = tt
rising-unpaged low high high' (x ∷ xs) l h = let k : x.number < high = h.1 in (h.0, omega arith, rising-unpaged (x.number + 1) high high' xs l h.2)

pub unpaged-stored : (page : ℕ) (rs : List Stored) → map unpaged (map (on_page page) rs) ≡ map (on_page 0) rs
unpaged-stored page [] = refl
unpaged-stored page (r ∷ rs) = rw (unpaged-stored page rs) refl

pub unpaged-pages : (ps : List StoredPage) → map unpaged (flat_map stored ps) ≡ map (on_page 0) (flat_map (λ p. p.records) ps)
unpaged-pages [] = refl
unpaged-pages (p ∷ ps) = rw (map-append, map-append, unpaged-stored p.number p.records, unpaged-pages ps) refl

pub unpaged-kept : (p : Pages) → map unpaged (kept_in p) ≡ map (on_page 0) (unread_in p)
unpaged-kept p =
    map-append unpaged (stored p.reader ++ flat_map stored p.circle.items) (stored p.tail)
    ∙ rw (map-append unpaged (stored p.reader) (flat_map stored p.circle.items), unpaged-stored p.reader.number p.reader.records, unpaged-pages p.circle.items, unpaged-stored p.tail.number p.tail.records)
    (sym (map-append (on_page 0) (p.reader.records ++ flat_map (λ page. page.records) p.circle.items) p.tail.records
    ∙ ap (λ xs. xs ++ map (on_page 0) p.tail.records) (map-append (on_page 0) p.reader.records (flat_map (λ page. page.records) p.circle.items))))

pub length-readings_from : (next : ℕ) (xs : List Accepted) → length (readings_from next xs) ≡ length xs
length-readings_from next [] = refl
length-readings_from next (x ∷ xs) = rw (length-readings_from (x.number + 1) xs) refl

pub readings_unread : (next : ℕ) (p : Pages) (left : List Stored) → left ≡ unread_in p → readings_from next (map (on_page 0) left) ≡ readings_from next (kept_in p)
readings_unread next p left e = rw (e, ← unpaged-kept p) (readings_from-unpaged next (kept_in p))

pub rising_unread : (a : Inside) → IsSound a → (left : List Stored) → left ≡ unread_in a.pages → IsRising a.next most_offered (map (on_page 0) left)
rising_unread a s left e =
    let few : a.accepted + a.dropped ≤ most_offered = s.offered in
    rw (e, ← unpaged-kept a.pages) (rising-unpaged a.next a.accepted most_offered (kept_in a.pages) (omega arith) s.numbered)

pub few_unread : (a : Inside) → IsSound a → (left : List Stored) → left ≡ unread_in a.pages → length (readings_from a.next (map (on_page 0) left)) ≤ 2 ^ 32
few_unread a s left e =
    let few = entries_few a s in
    let entries : a.entries ≡ length (kept_in a.pages) = s.entries in
    rw (readings_unread a.next a.pages left e, length-readings_from a.next (kept_in a.pages)) (omega arith)

-- a read that finds nothing
pub shown_none : (a : Inside) (p : Pages) → NothingUnread a.pages p → (seen (record a { pages = p })).shown ≡ (seen a).shown
shown_none a p h = rw (h.before, h.kept, h.tail_number, h.tail_filled) refl

pub without_none : (s : Shown) → s.kept ≡ [] → without_first s ≡ s
unfolding without_first
without_none s e = rw e refl

pub sound_none : (a : Inside) (p : Pages) → IsSound a → NothingUnread a.pages p → IsSound (record a { pages = p })
sound_none a p s h =
    let gone : kept_in p ≡ kept_in a.pages = h.kept ∙ sym h.before in
    record {
      two_pages = s.two_pages;
      few_pages = s.few_pages;
      short_pages = s.short_pages;
      entries = s.entries ∙ ap length (sym gone);
      bytes = s.bytes ∙ ap (sum_by (λ r. length r.bytes)) (sym gone);
      numbered = rw gone s.numbered;
      storable = rw gone s.storable;
      next = s.next;
      counted = s.counted;
      offered = s.offered;
      tail_number = rw h.tail_number s.tail_number;
      tail_begun = rw (h.tail_filled, h.tail_number) s.tail_begun;
      tail_filled = rw h.tail_filled s.tail_filled;
      tail_next = h.tail_next ∙ s.tail_next;
      arranged = h.arranged a.page_count a.reader_page s.arranged;
      buffers = h.buffers.count a.page_count s.buffers;
      room = h.buffers.room a.page_bytes s.room;
    }

-- a ring that was cleared
pub sound_cleared : (a : Inside) (p : Pages) → IsSound a → IsCleared a.pages p → IsSound (record a { pages = p; reader_page = None; next = 0; entries = 0; bytes = 0; accepted = 0; dropped = 0; read = 0 })
sound_cleared a p s h = record {
  two_pages = s.two_pages;
  few_pages = s.few_pages;
  short_pages = s.short_pages;
  entries = rw (h.reader, h.circle, h.tail) refl;
  bytes = rw (h.reader, h.circle, h.tail) refl;
  numbered = rw (h.reader, h.circle, h.tail) tt;
  storable = rw (h.reader, h.circle, h.tail) tt;
  next = omega arith;
  counted = omega arith;
  offered = omega arith;
  tail_number = rw h.tail (omega arith);
  tail_begun = rw h.tail (λ k. absurd (omega arith));
  tail_filled = rw h.tail (omega arith);
  tail_next = rw h.tail refl;
  arranged = record {
    reader_behind = omega arith;
    circle = rw h.circle tt;
    reader = λ k. absurd (let z : length p.reader.records ≡ 0 = rw h.reader refl in omega arith);
    tail_unread = λ _. rw h.tail refl;
  };
  buffers = h.buffers.count a.page_count s.buffers;
  room = h.buffers.room a.page_bytes s.room;
}

-- a read that takes a record
pub shown_taken : (a : Inside) (p : Pages) (taken : Taken) → TakesFirst a.pages p taken → (seen (record a { pages = p; read = a.read + 1; next = taken.number + 1; reader_page = Some taken.page })).shown ≡ without_first (seen a).shown
unfolding without_first
shown_taken a p taken h = rw (h.kept, h.tail_number, h.tail_filled) refl

pub reading_taken : (a : Inside) (p : Pages) (taken : Taken) → TakesFirst a.pages p taken → Some (taken.number - a.next) ≡ option_map (λ (k : Reading). k.lost) (first (readings_shown (seen a).shown))
unfolding readings_shown
reading_taken a p taken h = rw h.kept refl

pub sound_taken : (a : Inside) (p : Pages) (taken : Taken) → IsSound a → TakesFirst a.pages p taken → IsSound (record a { pages = p; entries = a.entries - 1; bytes = a.bytes - taken.size; read = a.read + 1; next = taken.number + 1; reader_page = Some taken.page })
sound_taken a p taken s h =
    let first : Accepted = record { number = taken.number; page = taken.page; bytes = h.bytes } in
    let size : taken.size ≡ length h.bytes = h.size in
    let Rising : List Accepted → Type 0 = IsRising a.next a.accepted in
    let rising = subst Rising h.kept s.numbered in
    let storable = subst (AllByRecursion IsStorable) h.kept s.storable in
    let count : a.entries ≡ length (first ∷ kept_in p) = s.entries ∙ ap length h.kept in
    let sum : a.bytes ≡ length h.bytes + sum_by (λ r. length r.bytes) (kept_in p) = s.bytes ∙ ap (sum_by (λ r. length r.bytes)) h.kept ∙ sum_by-cons (λ (r : Accepted). length r.bytes) first (kept_in p) in
    record {
      two_pages = s.two_pages;
      few_pages = s.few_pages;
      short_pages = s.short_pages;
      entries = omega arith;
      bytes = omega arith;
      numbered = rising.2;
      storable = storable.1;
      next = let k : taken.number < a.accepted = rising.1 in omega arith;
      counted = let k : a.read + a.entries ≤ a.accepted = s.counted in omega arith;
      offered = s.offered;
      tail_number = rw h.tail_number s.tail_number;
      tail_begun = rw (h.tail_filled, h.tail_number) s.tail_begun;
      tail_filled = rw h.tail_filled s.tail_filled;
      tail_next = h.tail_next ∙ s.tail_next;
      arranged = h.arranged a.page_count a.reader_page s.arranged;
      buffers = h.buffers.count a.page_count s.buffers;
      room = h.buffers.room a.page_bytes s.room;
    }
