-- Where the buffers of a ring are after a move of the tail and a read.
use Rattle.std.proofs.Common.{◌≡◌, ℕ, ◌+◌, ◌<◌, ◌≤◌, false, List, [], ◌∷◌, ◌++◌, length, flat_map, Option, Some, refl, sym, ap, ◌∙◌, subst, arith, inl, inr}
use Rattle.std.proofs.Common.{Global}
use Rattle.std.specs.VecDeque.{deque_len, deque_capacity}
use Rattle.std.specs.declared.collections.VecDeque.{VecDeque}
use Rattle.std.specs.List.{AllByRecursion}
use Rattle.std.proofs.lemmas.Bool.{false≢true, eq-eqb}
use Rattle.std.proofs.lemmas.Bool.Decides.{leb_tells}
use Rattle.page_ring.specs.StoredPage.{Stored, StoredPage, empty_page}
use Rattle.page_ring.specs.Cut.{Accepted}
use Rattle.page_ring.specs.Pages.{on_page, stored, IsCircle, head_is_in_the_way}
use Rattle.page_ring.specs.PageBuffers.{HasBuffers, HasRoom, SameBuffers, FreesPage}
use Rattle.page_ring.specs.Writes.{MovesInCircle}
use Rattle.page_ring.proofs.PageFacts.{all_append}
use Rattle.page_ring.proofs.RoomFacts.{KeepsRoom, room_begun, room_same, room_taken}
use Rattle.page_ring.specs.PageReads.{TakesFrom}
use Rattle.page_ring.specs.Reads.{SwapsReader, TakesFirst, reader_after}
use Rattle.page_ring.specs.Sound.{IsArranged}
use Rattle.page_ring.specs.declared.pages.Pages.{Pages}

-- pages whose numbers rise up to the tail page's are no more than there are numbers
pub circle_count : (pages tail low : ℕ) (ps : List StoredPage) → low ≤ tail → IsCircle pages tail low ps → low + length ps ≤ tail
circle_count pages tail low [] l h = omega arith
circle_count pages tail low (p ∷ ps) l h =
    let a : low ≤ p.number = h.0 in
    let b : p.number < tail = h.1 in
    let rest = circle_count pages tail (p.number + 1) ps (omega arith) h.5 in
    omega arith

-- if the head page isn't in the way, one page of the circle is still to come
pub circle_short : (pages tail low : ℕ) (ps : List StoredPage) → 2 ≤ pages → low ≤ tail → IsCircle pages tail low ps → head_is_in_the_way pages tail ps ≡ false → length ps + 2 ≤ pages
circle_short pages tail low [] two l h e = omega arith
circle_short pages tail low (head ∷ rest) two l h e =
    let b : head.number < tail = h.1 in
    let count = circle_count pages tail (head.number + 1) rest (omega arith) h.5 in
    elim (leb_tells (head.number + pages) (tail + 1)) [
      | inl t ↦ absurd (false≢true (sym e ∙ t.0))
      | inr f ↦ let far : tail + 1 < head.number + pages = f.1 in omega arith
    ]

-- a read changes no buffer
pub same_read : (old mid : Pages) (reader tail : StoredPage) → KeepsRoom mid.reader reader → KeepsRoom mid.tail tail → SameBuffers old mid → SameBuffers old (record mid { reader = reader; tail = tail })
same_read old mid reader tail r t same = record {
  count = λ pages h. let b = same.count pages h in record { count = b.count; circle_room = b.circle_room; spare_room = b.spare_room };
  room = λ page_bytes h.
      let b = same.room page_bytes h in
      record { reader = r page_bytes b.reader; circle = b.circle; tail = t page_bytes b.tail; spare = b.spare };
}

-- the reader page has the first unread record
pub arranged_read : (pages : ℕ) (reader_page : Option ℕ) (mid : Pages) (reader : StoredPage) → IsArranged pages reader_page mid → 0 < length mid.reader.records → mid.reader.number ≡ reader.number → IsArranged pages (Some reader.number) (record mid { reader = reader })
arranged_read pages reader_page mid reader a some n =
    let both = a.reader some in
    let on_it : reader_page ≡ Some reader.number = both.0 ∙ ap Some n in
    let b = subst (λ (o : Option ℕ). IsArranged pages o mid) on_it a in
    let less : mid.reader.number < mid.tail.number = both.1 in
    record {
      reader_behind = b.reader_behind;
      circle = b.circle;
      reader = λ _. (refl, omega arith);
      tail_unread = b.tail_unread;
    }

stored_taken : (x page : StoredPage) (r : Stored) (rest : List Accepted) → x ≡ record page { records = r ∷ page.records } → stored x ++ rest ≡ on_page page.number r ∷ (stored page ++ rest)
stored_taken x page r rest e = rw e refl

nonempty : (rs rest : List Stored) (r : Stored) → rs ≡ r ∷ rest → 0 < length rs
nonempty rs rest r e = rw e (omega arith)

pub taken_from_reader : (old mid : Pages) (reader : StoredPage) (page number size : ℕ) → SwapsReader old mid → TakesFrom mid.reader reader number size → page ≡ reader.number → TakesFirst old (record mid { reader = reader }) (record { page = page; number = number; size = size })
taken_from_reader old mid reader page number size s t p =
    let r : Stored = record { number = number; bytes = t.bytes } in
    let same_number : mid.reader.number ≡ reader.number = ap (λ (x : StoredPage). x.number) t.taken in
    let some : 0 < length mid.reader.records = nonempty mid.reader.records reader.records r (ap (λ (x : StoredPage). x.records) t.taken) in
    record {
      bytes = t.bytes;
      size = t.size;
      kept = sym s.kept ∙ ap (λ (xs : List Accepted). xs ++ stored mid.tail) (stored_taken mid.reader reader r (flat_map stored mid.circle.items) t.taken) ∙ rw p refl;
      tail_number = ap (λ (x : StoredPage). x.number) s.tail;
      tail_filled = ap (λ (x : StoredPage). x.filled) s.tail;
      tail_next = ap (λ (x : StoredPage). x.next) s.tail;
      arranged = λ pages reader_page a. rw p (arranged_read pages (reader_after reader_page mid) mid reader (s.arranged pages reader_page a) some same_number);
      buffers = same_read old mid reader mid.tail (room_taken mid.reader reader number size t) (room_same mid.tail mid.tail refl) s.buffers;
    }

-- only the tail page has unread records: it becomes the reader page
arranged_tail : (pages : ℕ) (mid : Pages) (reader tail : StoredPage) → mid.circle.items ≡ [] → reader.records ≡ [] → IsArranged pages (Some tail.number) (record mid { reader = reader; tail = tail })
arranged_tail pages mid reader tail none empty = record {
  reader_behind = omega arith;
  circle = rw none tt;
  reader = λ k. absurd (let z : length reader.records ≡ 0 = ap length empty in omega arith);
  tail_unread = λ k. absurd (false≢true (sym k ∙ eq-eqb tail.number tail.number refl));
}

pub taken_from_tail : (old mid : Pages) (reader tail : StoredPage) (page number size : ℕ) → SwapsReader old mid → mid.reader.records ≡ [] → reader ≡ mid.reader → TakesFrom mid.tail tail number size → page ≡ tail.number → TakesFirst old (record mid { reader = reader; tail = tail }) (record { page = page; number = number; size = size })
taken_from_tail old mid reader tail page number size s none same t p =
    let r : Stored = record { number = number; bytes = t.bytes } in
    let empty : reader.records ≡ [] = ap (λ (x : StoredPage). x.records) same ∙ none in
    let circle : mid.circle.items ≡ [] = s.empty none in
    record {
      bytes = t.bytes;
      size = t.size;
      kept = sym s.kept ∙ rw (none, empty, circle, p) (tail_taken mid.tail tail r t.taken);
      tail_number = sym (ap (λ (x : StoredPage). x.number) t.taken) ∙ ap (λ (x : StoredPage). x.number) s.tail;
      tail_filled = sym (ap (λ (x : StoredPage). x.filled) t.taken) ∙ ap (λ (x : StoredPage). x.filled) s.tail;
      tail_next = sym (ap (λ (x : StoredPage). x.next) t.taken) ∙ ap (λ (x : StoredPage). x.next) s.tail;
      arranged = λ pages reader_page a. rw p (arranged_tail pages mid reader tail circle empty);
      buffers = same_read old mid reader tail (room_same mid.reader reader same) (room_taken mid.tail tail number size t) s.buffers;
    }
  where
    tail_taken : (x page : StoredPage) (r : Stored) → x ≡ record page { records = r ∷ page.records } → stored x ≡ on_page page.number r ∷ stored page
    tail_taken x page r e = rw e refl

-- a page of the circle is freed
pub same_freed : (old p : Pages) (page : StoredPage) (circle spare : VecDeque StoredPage Global) → SameBuffers old p
    → p.circle.items ≡ page ∷ circle.items → deque_len circle + 1 ≡ deque_len p.circle → deque_capacity circle ≡ deque_capacity p.circle
    → spare.items ≡ page ∷ p.spare.items → deque_len spare ≡ deque_len p.spare + 1 → deque_capacity spare ≡ deque_capacity p.spare
    → SameBuffers old (record p { circle = circle; spare = spare })
same_freed old p page circle spare same items len cap spares more room = record {
  count = λ pages h.
      let b = same.count pages h in
      let count : deque_len p.circle + deque_len p.spare + 1 ≡ pages = b.count in
      let circle_room : pages ≤ deque_capacity p.circle = b.circle_room in
      let spare_room : pages ≤ deque_capacity p.spare = b.spare_room in
      record { count = omega arith; circle_room = omega arith; spare_room = omega arith };
  room = λ page_bytes h.
      let b = same.room page_bytes h in
      let all : AllByRecursion (HasRoom page_bytes) (page ∷ circle.items) = subst (AllByRecursion (HasRoom page_bytes)) items b.circle in
      record { reader = b.reader; circle = all.1; tail = b.tail; spare = rw spares (all.0, b.spare) };
}

-- none was left
pub same_emptied : (old p : Pages) (circle : VecDeque StoredPage Global) → SameBuffers old p → p.circle.items ≡ circle.items → deque_len circle ≡ deque_len p.circle → deque_capacity circle ≡ deque_capacity p.circle → SameBuffers old (record p { circle = circle })
same_emptied old p circle same items len cap = record {
  count = λ pages h.
      let b = same.count pages h in
      let count : deque_len p.circle + deque_len p.spare + 1 ≡ pages = b.count in
      let circle_room : pages ≤ deque_capacity p.circle = b.circle_room in
      record { count = omega arith; circle_room = omega arith; spare_room = b.spare_room };
  room = λ page_bytes h.
      let b = same.room page_bytes h in
      record { reader = b.reader; circle = subst (AllByRecursion (HasRoom page_bytes)) items b.circle; tail = b.tail; spare = b.spare };
}

-- the tail moves on to a page that was freed
pub moved_in_circle : (pages : ℕ) (old mid : Pages) (page next : StoredPage) (circle : VecDeque StoredPage Global) → HasBuffers pages old → FreesPage pages old mid page
    → next ≡ empty_page (old.tail.number + 1) old.tail.next page.room → circle.items ≡ mid.circle.items ++ old.tail ∷ [] → deque_len circle ≡ deque_len mid.circle + 1 → deque_capacity circle ≡ deque_capacity mid.circle
    → MovesInCircle pages old (record mid { circle = circle; tail = next })
moved_in_circle pages old mid page next circle has frees begun items len cap = record {
  tail_number = ap (λ (p : StoredPage). p.number) begun;
  tail_filled = ap (λ (p : StoredPage). p.filled) begun;
  tail_records = ap (λ (p : StoredPage). p.records) begun;
  tail_next = ap (λ (p : StoredPage). p.next) begun;
  reader = frees.reader;
  circle = items ∙ ap (λ (ps : List StoredPage). ps ++ old.tail ∷ []) frees.circle;
  buffers = record {
    count = λ n h.
        let one : deque_len old.circle + deque_len old.spare + 1 ≡ n = h.count in
        let other : deque_len old.circle + deque_len old.spare + 1 ≡ pages = has.count in
        let count : deque_len mid.circle + deque_len mid.spare + 2 ≡ pages = frees.count in
        let circle_room : pages ≤ deque_capacity mid.circle = frees.circle_room in
        let spare_room : pages ≤ deque_capacity mid.spare = frees.spare_room in
        record { count = omega arith; circle_room = omega arith; spare_room = omega arith };
    room = λ page_bytes h.
        let both = frees.room page_bytes h in
        record {
          reader = both.1.reader;
          circle = rw items (all_append (HasRoom page_bytes) mid.circle.items (old.tail ∷ []) both.1.circle (h.tail, tt));
          tail = room_begun page next (old.tail.number + 1) old.tail.next begun page_bytes both.0;
          spare = both.1.spare;
        };
  };
}
