-- What a cursor has left.
use Rattle.std.specs.Prelude.{◌≡◌, List, [], ◌∷◌, Option, Some, None, ⊤}
use Rattle.page_ring.specs.Account.{Reading}
use Rattle.page_ring.specs.Reading.{reading}
use Rattle.page_ring.specs.declared.rings.Kept.{Kept}
use Rattle.trace_buffer.specs.declared.cursor.Cursor.TheInside.{Inside}

abbrev pub beginning_with : Option Kept → List Reading → List Reading
beginning_with None rest = rest
beginning_with (Some k) rest = reading k ∷ rest

abbrev pub readings_ahead : Inside → List Reading
readings_ahead cursor = beginning_with cursor.first cursor.rest

-- a cursor with no first record has none left
abbrev pub EndsWith : Option Kept → List Reading → Type 0
EndsWith None rest = rest ≡ []
EndsWith (Some k) rest = ⊤

abbrev pub IsAtEnd : Inside → Type 0
IsAtEnd cursor = EndsWith cursor.first cursor.rest
