-- Rows as pairs of field names and texts give them, or why they give none, as functions. That these are what `Pairs` says is stated in `Laws`, as
-- `RowIsGiven` and `RefusalIsGiven`. That the cause is that of the pair to blame, in the words of `RowCauses`, is `CauseIsAtThePair` there.
use Rattle.std.specs.Prelude.{◌≡◌, ℕ, ℤ, int_le, Bool, true, not, ◌&&◌, nat_lt, if◌then◌else◌, bytes_eq, List, [], ◌∷◌, ◌++◌, length, find, filter_map, Option, None, Some, is_some, option_and_then, Result, Ok, Err}
use Rattle.std.specs.List.{list_all}
use Rattle.trace_format.specs.declared.bad_row.BadRow.{BadRow}
use Rattle.trace_format.specs.declared.fault.RowCause.{RowCause}
use Rattle.trace_format.specs.declared.fault.RowCause.TheVariants.{Unknown, Repeated, NoNumber, OutOfRange, BadByte, TooLong, Missing}
use Rattle.trace_format.specs.declared.fault.RowFault.{RowFault}
use Rattle.trace_format.specs.declared.fault.RowFault.TheVariants as fault
use Rattle.trace_format.specs.declared.kind.Kind.{Kind}
use Rattle.trace_format.specs.declared.kind.Kind.TheVariants.{Number, Char}
use Rattle.trace_format.specs.declared.event.Field.{Field}
use Rattle.trace_format.specs.declared.pair.Pair.{Pair}
use Rattle.trace_lex.specs.Numbers.{number_of}
use Rattle.trace_format.specs.Kinds.{least, greatest}
use Rattle.trace_format.specs.Definitions.{Definition}
use Rattle.trace_format.specs.Cells.{Datum, Whole, Bytes, Cells, kinds_of, is_printable, payload_of}

-- a number as a value, if it is in the range
abbrev pub number_in : ℤ → ℤ → ℤ → Option Datum
number_in low high n = if int_le low n && int_le n high then Some (Whole n) else None

-- the value that a text gives to a field of the type
unfoldable pub value_of : Kind → List ℕ → Option Datum
value_of (Number t) text = option_and_then (number_in (least t) (greatest t)) (number_of text)
value_of (Char n) text = if nat_lt (length text) n && list_all is_printable text then Some (Bytes text) else None

-- the field of a name
abbrev pub field_named : List Field → List ℕ → Option Field
field_named fields name = find (λ field. bytes_eq field.name name) fields

-- the value that a pair gives to the field that it names
abbrev pub pair_value : List Field → Pair → Option Datum
pair_value fields pair = option_and_then (λ field. value_of field.kind pair.value) (field_named fields pair.name)

-- the pair of a name
abbrev pub pair_named : List Pair → List ℕ → Option Pair
pair_named pairs name = find (λ pair. bytes_eq pair.name name) pairs

-- the field that a pair names, if none before it names it
abbrev pub new_field : List Field → List Pair → Pair → Option Field
new_field fields before pair = if is_some (pair_named before pair.name) then None else field_named fields pair.name

-- whether each pair names such a field
abbrev pub all_new : List Field → List Pair → List Pair → Bool
all_new fields before [] = true
all_new fields before (pair ∷ pairs) = is_some (new_field fields before pair) && all_new fields (before ++ pair ∷ []) pairs

-- a pair is right behind others where it names a field that none of them names, and its text is a value of that field
abbrev pub is_right : List Field → List Pair → Pair → Bool
is_right fields before pair = is_some (pair_value fields pair) && not (is_some (pair_named before pair.name))

-- ---- why a pair is refused

-- why a text is no value of the type, if it is none
abbrev pub value_cause : Kind → List ℕ → RowCause
value_cause (Number t) text = if is_some (number_of text) then OutOfRange else NoNumber
value_cause (Char n) text = if list_all is_printable text then TooLong else BadByte

-- why a pair is not right after others, if it is not, by the field that it names
abbrev pub named_cause : Option Field → List Pair → Pair → RowCause
named_cause None before pair = Unknown
named_cause (Some field) before pair = if is_some (pair_named before pair.name) then Repeated else value_cause field.kind pair.value

abbrev pub pair_cause : List Field → List Pair → Pair → RowCause
pair_cause fields before pair = named_cause (field_named fields pair.name) before pair

-- what is told of a pair that is not right after others: its name, why, and its index
abbrev pub wrong_at : List Field → List Pair → Pair → BadRow
wrong_at fields before pair = record { field = pair.name; cause = pair_cause fields before pair; pair = Some (length before) }

-- the first pair that is not right behind those before it
abbrev pub first_wrong : List Field → List Pair → List Pair → Option BadRow
first_wrong fields before [] = None
first_wrong fields before (pair ∷ pairs) = if is_right fields before pair then first_wrong fields (before ++ pair ∷ []) pairs else Some (wrong_at fields before pair)

-- ---- rows

-- the value that the pairs give to a field
abbrev pub given : List Pair → Field → Option Datum
given pairs field = option_and_then (λ pair. value_of field.kind pair.value) (pair_named pairs field.name)

-- the name of the first field that no pair gives a value
abbrev pub first_missing : List Field → List Pair → Option (List ℕ)
first_missing [] pairs = None
first_missing (field ∷ fields) pairs = if is_some (given pairs field) then first_missing fields pairs else Some field.name

-- what is told of a field that is missing
abbrev pub missing_at : List ℕ → BadRow
missing_at name = record { field = name; cause = Missing; pair = None }

-- the row that the pairs give, or what is told where they give none
abbrev pub row_unless : Option BadRow → Option (List ℕ) → Cells → Result Cells BadRow
row_unless (Some wrong) missing row = Err wrong
row_unless None (Some name) row = Err (missing_at name)
row_unless None None row = Ok row

unfoldable pub row_of : Definition → List Pair → Result Cells BadRow
row_of definition pairs = row_unless (first_wrong definition.fields [] pairs) (first_missing definition.fields pairs) (record { kinds = kinds_of definition; values = filter_map (given pairs) definition.fields })

-- ---- what `build` answers

-- the bytes are the payload of the row that the pairs give
abbrev pub IsPayloadOf : Result Cells BadRow → List ℕ → Type 0
IsPayloadOf (Ok row) bytes = bytes ≡ payload_of row
IsPayloadOf (Err bad) bytes = ⊥

-- what `build` answers is the row that the pairs give, unless memory was refused
abbrev pub IsBuilt : Result Cells RowFault → Result Cells BadRow → Type 0
IsBuilt (Ok row) built = built ≡ Ok row
IsBuilt (Err (fault.BadRow bad)) built = built ≡ Err bad
IsBuilt (Err fault.Memory) built = Unit {0}

-- what is told of the pairs, or that memory was refused
abbrev pub IsBadRow : RowFault → BadRow → Type 0
IsBadRow (fault.BadRow bad) told = bad ≡ told
IsBadRow fault.Memory told = Unit {0}
