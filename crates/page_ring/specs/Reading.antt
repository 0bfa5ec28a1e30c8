-- A kept record as a clause reads it, and what an iterator over kept records has left.
use Rattle.page_ring.specs.Account.{Reading}
use Rattle.page_ring.specs.declared.rings.Kept.{Kept}

abbrev pub reading : Kept → Reading
reading k = record { lost = k.lost; rec = k.rec.now }
