-- What the program's parts of a pattern stand for.
use Rattle.std.specs.Prelude.{◌≡◌, ◌≤◌, ℕ}
use Rattle.trace_filter.specs.declared.glob.Class as class
use Rattle.trace_filter.specs.declared.glob.Element as part
use Rattle.trace_filter.specs.declared.glob.Element.TheVariants as parts
use Rattle.trace_filter.specs.declared.glob.ReadElement as pieces
use Rattle.trace_filter.specs.Globs.{Class, Element, AnyBytes, OneByte, ReadElement}

abbrev pub class_of : class.Class → Class
class_of c = record { negated = c.negated; members = c.members.now }

abbrev pub glob_part_of : part.Element → Element
glob_part_of parts.AnyBytes = AnyBytes
glob_part_of (parts.OneByte c) = OneByte (class_of c)

-- the program's piece is the piece, and ends within so many bytes
pub record IsPartPiece (piece : ReadElement) (found : pieces.ReadElement) (limit : ℕ) : Type 0 where
  pub part : glob_part_of found.part ≡ piece.part
  pub more : found.more ≡ piece.more
  pub within : piece.more ≤ limit
