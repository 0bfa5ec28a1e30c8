-- How a ring's fields show, and what is true of them at every moment.
use Rattle.std.specs.Prelude.{◌≡◌, ℕ, ◌+◌, ◌<◌, ◌≤◌, List, [], ◌∷◌, length, sum_by, Option, Some, None, false, ⊤}
use Rattle.std.specs.List.{AllByRecursion}
use Rattle.page_ring.specs.Cut.{Accepted}
use Rattle.page_ring.specs.Shown.{Seen, most_offered}
use Rattle.page_ring.specs.Pages.{kept_in, bytes_on, IsCircle}
use Rattle.page_ring.specs.Account.{is_reader_page}
use Rattle.page_ring.specs.PageBuffers.{HasBuffers, IsRoomy}
use Rattle.page_ring.specs.declared.pages.Pages.{Pages}
use Rattle.page_ring.specs.declared.rings.Ring.TheInside.{Inside}

abbrev pub seen : Inside → Seen
seen a = record {
  pages = a.page_count;
  page_bytes = a.page_bytes;
  shown = record {
    kept = kept_in a.pages;
    accepted = a.accepted;
    taken = a.read;
    dropped = a.dropped;
    next = a.next;
    reader_page = a.reader_page;
    last_page = a.pages.tail.number;
    last_filled = a.pages.tail.filled;
  };
}

-- the numbers of the records rise, from `low` up to but not including `high`
abbrev pub IsRising : ℕ → ℕ → List Accepted → Type 0
IsRising low high [] = ⊤
IsRising low high (r ∷ rs) = (low ≤ r.number) × (r.number < high) × IsRising (r.number + 1) high rs

-- a record has a head and fits the longest page
abbrev pub IsStorable : Accepted → Type 0
IsStorable r = (16 ≤ length r.bytes) × (length r.bytes ≤ 4080)

-- the first page behind the reader's
abbrev pub page_after : Option ℕ → ℕ
page_after None = 0
page_after (Some page) = page + 1

-- the pages stand in order: the circle's numbers rise behind the reader's page, nothing on the circle was read, what is
-- unread outside the circle is on the reader's page, and the tail page is that page or nothing on it was read
pub record IsArranged (pages : ℕ) (reader_page : Option ℕ) (p : Pages) : Type 0 where
  pub reader_behind : page_after reader_page ≤ p.tail.number + 1
  pub circle : IsCircle pages p.tail.number (page_after reader_page) p.circle.items
  pub reader : 0 < length p.reader.records → (reader_page ≡ Some p.reader.number) × (p.reader.number < p.tail.number)
  pub tail_unread : is_reader_page reader_page p.tail.number ≡ false → p.tail.filled ≡ bytes_on p.tail

pub record IsSound (a : Inside) : Type 0 where
  pub two_pages : 2 ≤ a.page_count
  pub few_pages : a.page_count ≤ 1024
  pub short_pages : a.page_bytes ≤ 4080
  pub entries : a.entries ≡ length (kept_in a.pages)
  pub bytes : a.bytes ≡ sum_by (λ r. length r.bytes) (kept_in a.pages)
  pub numbered : IsRising a.next a.accepted (kept_in a.pages)
  pub storable : AllByRecursion IsStorable (kept_in a.pages)
  pub next : a.next ≤ a.accepted
  pub counted : a.read + a.entries ≤ a.accepted
  pub offered : a.accepted + a.dropped ≤ most_offered
  pub tail_number : a.pages.tail.number ≤ a.accepted
  pub tail_begun : 0 < a.pages.tail.filled → a.pages.tail.number < a.accepted
  pub tail_filled : a.pages.tail.filled ≤ a.page_bytes
  pub tail_next : a.pages.tail.next ≡ a.accepted
  pub arranged : IsArranged a.page_count a.reader_page a.pages
  pub buffers : HasBuffers a.page_count a.pages
  pub room : IsRoomy a.page_bytes a.pages
