-- How a page's fields show, and what is true of them at every moment.
use Rattle.std.specs.Prelude.{◌+◌, ◌^◌, ◌<◌, ◌≤◌, length, drop}
use Rattle.std.specs.Vec.{vec_capacity}
use Rattle.page_ring.specs.StoredPage.{StoredPage}
use Rattle.page_ring.specs.Packed.{records_in, IsPacked}
use Rattle.page_ring.specs.declared.page.Page.TheInside.{Inside}

abbrev pub seen_page : Inside → StoredPage
seen_page a = record {
  number = a.number;
  filled = length a.bytes.items;
  records = records_in a.first a.unread (drop a.cursor a.bytes.items);
  next = a.first + a.unread;
  room = vec_capacity a.bytes;
}

-- from the read cursor to the fill lie the unread records
pub record IsPage (a : Inside) : Type 0 where
  pub cursor : a.cursor ≤ length a.bytes.items
  pub packed : IsPacked a.unread (drop a.cursor a.bytes.items)
  pub small : a.first + a.unread < 2 ^ 64
