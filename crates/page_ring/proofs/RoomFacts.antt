-- What has room on a page, and how much a ring keeps at most: the pages are few and none is overfull.
use Rattle.std.proofs.Common.{◌≡◌, ℕ, ◌+◌, ◌*◌, ◌≤◌, List, [], ◌∷◌, ◌++◌, length, flat_map, sum_by, refl, sym, ap, ◌∙◌, subst, arith}
use Rattle.std.specs.List.{AllByRecursion}
use Rattle.std.proofs.lemmas.List.{map-append}
use Rattle.std.proofs.lemmas.List.Sums.{sum_by-append, sum_by-cons, sum_by_push}
use Rattle.page_ring.specs.StoredPage.{StoredPage, empty_page}
use Rattle.page_ring.specs.Cut.{Accepted}
use Rattle.page_ring.specs.Pages.{stored, kept_in, bytes_on}
use Rattle.page_ring.specs.PageBuffers.{HasBuffers, HasRoom, IsRoomy}
use Rattle.page_ring.specs.PageReads.{AppendsTo, TakesFrom}
use Rattle.page_ring.specs.declared.pages.Pages.{Pages}

-- ---- one page

-- a page with no records
pub room_empty : (page_bytes number next room : ℕ) → page_bytes ≤ room → HasRoom page_bytes (empty_page number next room)
room_empty page_bytes number next room h = record { room = h; filled = omega arith; unread = omega arith }

-- a page that has room where another had
abbrev pub KeepsRoom : StoredPage → StoredPage → Type 0
KeepsRoom old new = (page_bytes : ℕ) → HasRoom page_bytes old → HasRoom page_bytes new

pub room_same : (old new : StoredPage) → new ≡ old → KeepsRoom old new
room_same old new e page_bytes h = subst (HasRoom page_bytes) (sym e) h

pub room_begun : (old new : StoredPage) (number next : ℕ) → new ≡ empty_page number next old.room → KeepsRoom old new
room_begun old new number next e page_bytes h =
    subst (HasRoom page_bytes) (sym e) (room_empty page_bytes number next old.room h.room)

pub room_taken : (old new : StoredPage) (number size : ℕ) → TakesFrom old new number size → KeepsRoom old new
room_taken old new number size t page_bytes h =
    let first : Accepted = record { number = number; page = new.number; bytes = t.bytes } in
    let was : HasRoom page_bytes (record new { records = record { number = number; bytes = t.bytes } ∷ new.records }) = subst (HasRoom page_bytes) t.taken h in
    let both = sum_by-cons (λ (r : Accepted). length r.bytes) first (stored new) in
    record { room = was.room; filled = was.filled; unread = omega (arith, was.unread, both) }

-- a record is written where it fits
pub room_appended : (old new : StoredPage) (bytes : List ℕ) → AppendsTo old new bytes → (page_bytes : ℕ) → old.filled + length bytes ≤ page_bytes
    → HasRoom page_bytes old → HasRoom page_bytes new
room_appended old new bytes h page_bytes fits r =
    let last : Accepted = record { number = old.next; page = old.number; bytes = bytes } in
    let pushed : stored new ≡ stored old ++ last ∷ [] = rw (h.number, h.records, map-append) refl in
    let both : bytes_on new ≡ bytes_on old + length bytes =
    ap (sum_by (λ (r : Accepted). length r.bytes)) pushed ∙ sum_by_push (λ (r : Accepted). length r.bytes) (stored old) last in
    let filled : new.filled ≡ old.filled + length bytes = h.filled in
    let more : old.room ≤ new.room = h.room in
    let enough : page_bytes ≤ old.room = r.room in
    let unread : bytes_on old ≤ old.filled = r.unread in
    record { room = omega arith; filled = omega arith; unread = omega arith }

-- ---- all pages

-- at most 4080 bytes a page
pub pages_size : (page_bytes : ℕ) (ps : List StoredPage) → page_bytes ≤ 4080 → AllByRecursion (HasRoom page_bytes) ps
    → sum_by (λ r. length r.bytes) (flat_map stored ps) ≤ 4080 * length ps
pages_size page_bytes [] short h = omega arith
pages_size page_bytes (p ∷ ps) short h =
    let unread : bytes_on p ≤ p.filled = h.0.unread in
    let filled : p.filled ≤ page_bytes = h.0.filled in
    let rest = pages_size page_bytes ps short h.1 in
    let both = sum_by-append (λ (r : Accepted). length r.bytes) (stored p) (flat_map stored ps) in
    omega arith

pub kept_size : (pages page_bytes : ℕ) (p : Pages) → pages ≤ 1024 → page_bytes ≤ 4080 → HasBuffers pages p → IsRoomy page_bytes p
    → sum_by (λ r. length r.bytes) (kept_in p) ≤ 4182000
kept_size pages page_bytes p few short has roomy =
    let circle = pages_size page_bytes p.circle.items short roomy.circle in
    let first : bytes_on p.reader ≤ p.reader.filled = roomy.reader.unread in
    let first_filled : p.reader.filled ≤ page_bytes = roomy.reader.filled in
    let last : bytes_on p.tail ≤ p.tail.filled = roomy.tail.unread in
    let last_filled : p.tail.filled ≤ page_bytes = roomy.tail.filled in
    let all = sum_by-append (λ (r : Accepted). length r.bytes) (stored p.reader ++ flat_map stored p.circle.items) (stored p.tail) in
    let front = sum_by-append (λ (r : Accepted). length r.bytes) (stored p.reader) (flat_map stored p.circle.items) in
    omega (arith, p.circle.ok.0, has.count, circle, first, first_filled, last, last_filled, all, front, few, short)
