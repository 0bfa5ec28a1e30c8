-- What an iterator over kept records has left.
use Rattle.std.specs.Prelude.{List, map}
use Rattle.page_ring.specs.Account.{Reading, readings_from}
use Rattle.page_ring.specs.Pages.{on_page}
use Rattle.page_ring.specs.Shown.{most_offered}
use Rattle.page_ring.specs.Unread.{unread_left}
use Rattle.page_ring.specs.Sound.{IsRising}
use Rattle.page_ring.specs.declared.kept_records.KeptRecords.TheInside.{Inside}

abbrev pub readings_left : Inside → List Reading
readings_left it = readings_from it.next (map (on_page 0) (unread_left it.unread))

-- the numbers that are left rise
abbrev pub IsInOrder : Inside → Type 0
IsInOrder it = IsRising it.next most_offered (map (on_page 0) (unread_left it.unread))
