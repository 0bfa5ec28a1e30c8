-- What an append and a move of the tail leave: the unread records, and the pages in order.
use Rattle.std.proofs.Common.{◌≡◌, ◌≢◌, ℕ, ◌+◌, ◌<◌, ◌≤◌, true, false, List, [], ◌∷◌, ◌++◌, length, map, flat_map, sum_by, Option, Some, None, refl, sym, ap, ◌∙◌, subst, inl, inr, arith, append_assoc}
use Rattle.std.proofs.lemmas.Bool.{cases_Bool, eqb-true, eqb-false, false≢true}
use Rattle.std.proofs.lemmas.Bool.Decides.{leb_tells}
use Rattle.std.proofs.lemmas.List.{append-nil, map-append}
use Rattle.std.proofs.lemmas.List.Sums.{sum_by_push}
use Rattle.std.proofs.lemmas.List.Concat.{flat_map-append}
use Rattle.page_ring.specs.StoredPage.{Stored, StoredPage}
use Rattle.page_ring.specs.declared.pages.Pages.{Pages}
use Rattle.page_ring.specs.Cut.{Accepted}
use Rattle.page_ring.specs.Account.{is_reader_page}
use Rattle.page_ring.specs.Pages.{on_page, stored, kept_in, bytes_on, IsCircle, cleared}
use Rattle.page_ring.specs.PageBuffers.{HasBuffers, IsRoomy}
use Rattle.page_ring.specs.Writes.{MovesTail, Appends as WritesTo}
use Rattle.page_ring.specs.Sound.{IsArranged, page_after}
use Rattle.page_ring.proofs.PageFacts.{circle_moved, circle_lower}
use Rattle.page_ring.proofs.RoomFacts.{room_appended}

-- a record of this number is written on the tail page
pub record Appends (old new : Pages) (number : ℕ) (bytes : List ℕ) : Type 0 where
  pub tail_number : new.tail.number ≡ old.tail.number
  pub tail_filled : new.tail.filled ≡ old.tail.filled + length bytes
  pub tail_records : map (on_page old.tail.number) new.tail.records ≡ map (on_page old.tail.number) old.tail.records ++ record { number = number; page = old.tail.number; bytes = bytes } ∷ []
  pub tail_next : new.tail.next ≡ number + 1
  pub circle : new.circle.items ≡ old.circle.items
  pub reader : new.reader ≡ old.reader
  pub count : (pages : ℕ) → HasBuffers pages old → HasBuffers pages new
  pub room : (page_bytes : ℕ) → old.tail.filled + length bytes ≤ page_bytes → IsRoomy page_bytes old → IsRoomy page_bytes new

pub stored_appended : (old new : Pages) (number : ℕ) (bytes : List ℕ) → Appends old new number bytes → stored new.tail ≡ stored old.tail ++ record { number = number; page = old.tail.number; bytes = bytes } ∷ []
stored_appended old new number bytes h = rw (h.tail_number) h.tail_records

pub kept_appended : (old new : Pages) (number : ℕ) (bytes : List ℕ) → Appends old new number bytes → kept_in new ≡ kept_in old ++ record { number = number; page = old.tail.number; bytes = bytes } ∷ []
kept_appended old new number bytes h =
    rw (stored_appended old new number bytes h, h.circle, h.reader) (sym (append_assoc (stored old.reader ++ flat_map stored old.circle.items) (stored old.tail) _))

pub kept_with : (old new : Pages) (number : ℕ) (bytes : List ℕ) → Appends old new number bytes → kept_in new ≡ kept_in old ++ record { number = number; page = new.tail.number; bytes = bytes } ∷ []
kept_with old new number bytes h =
    kept_appended old new number bytes h ∙ ap (λ (n : ℕ). kept_in old ++ record { number = number; page = n; bytes = bytes } ∷ []) (sym h.tail_number)

pub arranged_appended : (pages : ℕ) (reader : Option ℕ) (old new : Pages) (number : ℕ) (bytes : List ℕ) → Appends old new number bytes → IsArranged pages reader old → IsArranged pages reader new
arranged_appended pages reader old new number bytes h a = record {
  reader_behind = rw h.tail_number a.reader_behind;
  circle = rw (h.tail_number, h.circle) a.circle;
  reader = rw (h.tail_number, h.reader) a.reader;
  tail_unread = λ e.
      let was : old.tail.filled ≡ bytes_on old.tail = a.tail_unread (rw h.tail_number at e) in
      h.tail_filled ∙ ap (λ (n : ℕ). n + length bytes) was ∙ sym (ap (sum_by (λ r. length r.bytes)) (stored_appended old new number bytes h) ∙ sum_by_push (λ (r : Accepted). length r.bytes) (stored old.tail) _);
}

-- behind a reader on the tail page there is no circle
pub no_circle : (pages tail low : ℕ) (ps : List StoredPage) → tail < low → IsCircle pages tail low ps → ps ≡ []
no_circle pages tail low [] l h = refl
no_circle pages tail low (p ∷ ps) l h = let a : low ≤ p.number = h.0 in let b : p.number < tail = h.1 in absurd (omega arith)

pub is_reader_page-true : (reader : Option ℕ) (page : ℕ) → is_reader_page reader page ≡ true → reader ≡ Some page
is_reader_page-true None page h = absurd (false≢true h)
is_reader_page-true (Some reader) page h = ap Some (eqb-true reader page h)

pub is_reader_page-false : (reader : Option ℕ) (page : ℕ) → is_reader_page reader page ≡ false → page_after reader ≤ page + 1 → page_after reader ≤ page
is_reader_page-false None page h l = omega arith
is_reader_page-false (Some reader) page h l = let ne : reader ≢ page = eqb-false reader page h in omega arith

-- a page with bytes and nothing read has records
pub has_records : (number filled : ℕ) (rs : List Stored) → 0 < filled → filled ≡ sum_by (λ r. length r.bytes) (map (on_page number) rs) → 0 < length rs
has_records number filled [] l e = absurd (omega arith)
has_records number filled (r ∷ rs) l e = omega arith

-- where the tail page is the reader's, nothing else is unread
pub no_reader : (reader : Option ℕ) (tail number : ℕ) (rs : List Stored) → reader ≡ Some tail → (0 < length rs → (reader ≡ Some number) × (number < tail)) → rs ≡ []
no_reader reader tail number [] e h = refl
no_reader reader tail number (r ∷ rs) e h =
    let both = h (omega arith) in
    let same : Some tail ≡ Some number = sym e ∙ both.0 in
    let equal : tail ≡ number = (cc) in
    let less : number < tail = both.1 in
    absurd (omega arith)

pub kept_moved : (pages : ℕ) (reader : Option ℕ) (old new : Pages) → MovesTail pages reader old new → IsArranged pages reader old → kept_in new ≡ (stored old.reader ++ flat_map stored (cleared pages old.tail.number old.circle.items)) ++ stored old.tail
kept_moved pages reader old new h a =
    elim (cases_Bool (is_reader_page reader old.tail.number)) [
      | inl t ↦
          let on_tail = is_reader_page-true reader old.tail.number t in
          let beyond : old.tail.number < page_after reader = rw on_tail (omega arith) in
          let circle = no_circle pages old.tail.number (page_after reader) old.circle.items beyond a.circle in
          let first = no_reader reader old.tail.number old.reader.number old.reader.records on_tail a.reader in
          let reader_is : new.reader ≡ old.tail = rw t at h.reader in
          let circle_is : new.circle.items ≡ [] = rw (t, circle) at h.circle in
          rw (reader_is, circle_is, h.tail_records, circle, first, append-nil) (append-nil (stored old.tail))
      | inr f ↦
          let reader_is : new.reader ≡ old.reader = rw f at h.reader in
          let circle_is : new.circle.items ≡ cleared pages old.tail.number old.circle.items ++ old.tail ∷ [] = rw f at h.circle in
          rw (reader_is, circle_is, h.tail_records, flat_map-append, append-nil, append-nil) (sym (append_assoc (stored old.reader) _ (stored old.tail)))
    ]

pub moved_circle : (pages tail low : ℕ) (ps : List StoredPage) (old : StoredPage) → 2 ≤ pages → low ≤ tail → IsCircle pages tail low ps → old.number ≡ tail → old.filled ≡ bytes_on old → 0 < length old.records → IsCircle pages (tail + 1) low (cleared pages tail ps ++ old ∷ [])
moved_circle pages tail low [] old two l h n f e = circle_moved pages tail low [] old two l h (λ k. absurd (omega arith)) n f e
moved_circle pages tail low (head ∷ rest) old two l h n f e =
    let a : low ≤ head.number = h.0 in
    let b : head.number < tail = h.1 in
    let near : tail < head.number + pages = h.2 in
    elim (leb_tells (head.number + pages) (tail + 1)) [
      | inl t ↦ rw (t.0) (circle_lower pages (tail + 1) low (head.number + 1) (rest ++ old ∷ []) (omega arith)
          (circle_moved pages tail (head.number + 1) rest old two (omega arith) h.5 (λ _. omega arith) n f e))
      | inr g ↦ rw (g.0) (circle_lower pages (tail + 1) low head.number ((head ∷ rest) ++ old ∷ []) a
          (circle_moved pages tail head.number (head ∷ rest) old two (omega arith) (omega arith, h.1, h.2, h.3, h.4, h.5) (λ _. g.1) n f e))
    ]

pub arranged_moved : (pages : ℕ) (reader : Option ℕ) (old new : Pages) → 2 ≤ pages → 0 < old.tail.filled → MovesTail pages reader old new → IsArranged pages reader old → IsArranged pages reader new
arranged_moved pages reader old new two filled h a =
    let low : page_after reader ≤ old.tail.number + 1 = a.reader_behind in
    let behind : page_after reader ≤ new.tail.number + 1 = rw h.tail_number (omega arith) in
    let unread : new.tail.filled ≡ bytes_on new.tail = rw (h.tail_filled, h.tail_records) refl in
    elim (cases_Bool (is_reader_page reader old.tail.number)) [
      | inl t ↦
          let on_tail = is_reader_page-true reader old.tail.number t in
          let beyond : old.tail.number < page_after reader = rw on_tail (omega arith) in
          let circle = no_circle pages old.tail.number (page_after reader) old.circle.items beyond a.circle in
          let reader_is : new.reader ≡ old.tail = rw t at h.reader in
          let circle_is : new.circle.items ≡ [] = rw (t, circle) at h.circle in
          record {
            reader_behind = behind;
            circle = rw circle_is tt;
            reader = λ _. rw (reader_is, h.tail_number) (on_tail, omega arith);
            tail_unread = λ _. unread;
          }
      | inr f ↦
          let reader_is : new.reader ≡ old.reader = rw f at h.reader in
          let circle_is : new.circle.items ≡ cleared pages old.tail.number old.circle.items ++ old.tail ∷ [] = rw f at h.circle in
          let whole = a.tail_unread f in
          record {
            reader_behind = behind;
            circle = rw (circle_is, h.tail_number) (moved_circle pages old.tail.number (page_after reader) old.circle.items old.tail two (is_reader_page-false reader old.tail.number f low) a.circle refl whole (has_records old.tail.number old.tail.filled old.tail.records filled whole));
            reader = λ k. let was = a.reader (rw reader_is at k) in rw (reader_is, h.tail_number) (was.0, let less : old.reader.number < old.tail.number = was.1 in omega arith);
            tail_unread = λ _. unread;
          }
    ]

-- from what `append` ensures
pub appends_from : (old new : Pages) (number : ℕ) (bytes : List ℕ) → old.tail.next ≡ number → WritesTo old new bytes → Appends old new number bytes
appends_from old new number bytes next h = record {
  tail_number = h.tail.number;
  tail_filled = h.tail.filled;
  tail_records = ap (map (on_page old.tail.number)) h.tail.records ∙ rw (map-append, next) refl;
  tail_next = h.tail.next ∙ ap (λ (n : ℕ). n + 1) next;
  circle = ap (λ (p : Pages). p.circle.items) h.others;
  reader = ap (λ (p : Pages). p.reader) h.others;
  count = λ pages b.
      subst (HasBuffers pages) (sym h.others) (record { count = b.count; circle_room = b.circle_room; spare_room = b.spare_room });
  room = λ page_bytes fits b.
      let tail = room_appended old.tail new.tail bytes h.tail page_bytes fits b.tail in
      subst (IsRoomy page_bytes) (sym h.others) (record { reader = b.reader; circle = b.circle; tail = tail; spare = b.spare });
}
