-- What an iterator over the records of a page has left.
use Rattle.std.specs.Prelude.{◌+◌, ◌^◌, ◌<◌, List}
use Rattle.page_ring.specs.StoredPage.{Stored}
use Rattle.page_ring.specs.Packed.{records_in, IsPacked}
use Rattle.page_ring.specs.declared.page.PageRecords.TheInside.{Inside}

abbrev pub records_left : Inside → List Stored
records_left it = records_in it.number it.left it.bytes.now

pub record IsRun (it : Inside) : Type 0 where
  pub packed : IsPacked it.left it.bytes.now
  pub small : it.number + it.left < 2 ^ 64
