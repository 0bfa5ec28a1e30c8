-- Why pairs give no row, and which of them is to blame.
use Rattle.std.specs.Prelude.{◌≡◌, ◌⊎◌, ◌≤◌, ℕ, false, IsTrue, List, length, Some, None, is_some}
use Rattle.std.specs.List.{list_all}
use Rattle.trace_format.specs.declared.kind.NumberType.{NumberType}
use Rattle.trace_format.specs.declared.kind.Kind.{Kind}
use Rattle.trace_format.specs.declared.kind.Kind.TheVariants.{Number, Char}
use Rattle.trace_format.specs.declared.event.Field.{Field}
use Rattle.trace_format.specs.declared.pair.Pair.{Pair}
use Rattle.trace_format.specs.declared.bad_row.BadRow.{BadRow}
use Rattle.trace_format.specs.declared.fault.RowCause.{RowCause}
use Rattle.trace_format.specs.declared.fault.RowCause.TheVariants.{Unknown, Repeated, NoNumber, OutOfRange, BadByte, TooLong, Missing}
use Rattle.trace_lex.specs.Numbers.{number_of}
use Rattle.trace_format.specs.Definitions.{has_field}
use Rattle.trace_format.specs.Cells.{is_printable}
use Rattle.trace_format.specs.Pairs.{has_pair, HasNoValue, IsWrongPair, IsMissingField}

-- a pair names a field of the type, which no pair before it names, and its text is no value of the field
pub record IsNoValueOf (fields : List Field) (before : List Pair) (pair : Pair) (type : Kind) : Type 0 where
  pub new : has_pair before pair.name ≡ false
  pub none : HasNoValue fields pair
  pub kind : none.field.kind ≡ type

-- what is wrong with a pair after others
abbrev pub IsWrongFor : List Field → List Pair → Pair → RowCause → Type 0
IsWrongFor fields before pair Unknown = has_field fields pair.name ≡ false
IsWrongFor fields before pair Repeated = IsTrue (has_field fields pair.name) × IsTrue (has_pair before pair.name)
IsWrongFor fields before pair NoNumber = (t : NumberType) × IsNoValueOf fields before pair (Number t) × (number_of pair.value ≡ None)
IsWrongFor fields before pair OutOfRange = (t : NumberType) × IsNoValueOf fields before pair (Number t) × IsTrue (is_some (number_of pair.value))
IsWrongFor fields before pair BadByte = (n : ℕ) × IsNoValueOf fields before pair (Char n) × (list_all is_printable pair.value ≡ false)
IsWrongFor fields before pair TooLong = (n : ℕ) × IsNoValueOf fields before pair (Char n) × (n ≤ length pair.value)
IsWrongFor fields before pair Missing = ⊥

-- a pair has the name that is told and is wrong for the cause; it has this index, and all before it are right
pub record IsWrongPairFor (fields : List Field) (pairs : List Pair) (told : BadRow) : Type 0 where
  pub pair : IsWrongPair fields pairs told.field
  pub index : told.pair ≡ Some (length pair.front)
  pub cause : IsWrongFor fields pair.front pair.pair told.cause

-- with no pair wrong, none is to blame, and the first missing field has the name
pub record IsMissingFor (fields : List Field) (pairs : List Pair) (told : BadRow) : Type 0 where
  pub field : IsMissingField fields pairs told.field
  pub none : told.pair ≡ None
  pub cause : told.cause ≡ Missing

-- what is told of pairs that are refused
abbrev pub IsToldOf : List Field → List Pair → BadRow → Type 0
IsToldOf fields pairs told = IsWrongPairFor fields pairs told ⊎ IsMissingFor fields pairs told
