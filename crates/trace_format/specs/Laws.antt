-- What `spots_of`, `definition_of`, `row_of` and `row_from` say, as laws without a program.
use Rattle.std.specs.Prelude.{◌≡◌, ◌⊎◌, ◌↔◌, ℕ, ◌<◌, ◌^◌, List, length, All, Some, option_and_then, Ok, Err}
use Rattle.trace_format.specs.declared.event.Field.{Field}
use Rattle.trace_format.specs.declared.pair.Pair.{Pair}
use Rattle.trace_format.specs.Words.{Spot, spots_of, words_of}
use Rattle.trace_format.specs.WordParts.{IsWritten}
use Rattle.trace_format.specs.Definitions.{Definition, IsDefinition, Declares, IsRefusedAt}
use Rattle.trace_format.specs.Reading.{definition_of, cause_in}
use Rattle.trace_format.specs.DeclarationCauses.{IsRefusedFor}
use Rattle.trace_format.specs.declared.bad_row.BadRow.{BadRow}
use Rattle.trace_format.specs.Cells.{Cells, IsRowOf, value_at, payload_of, payload_size_of}
use Rattle.trace_format.specs.Operands.{Emission, operand_from, operand_value}
use Rattle.trace_format.specs.Rows.{row_of}
use Rattle.trace_format.specs.Pairs.{Give, IsWrongPair, IsMissingField}
use Rattle.trace_format.specs.RowCauses.{IsToldOf}
use Rattle.trace_format.specs.Decoding.{row_from}

-- ---- words

-- a text is written of parts that stand for these words with their offsets exactly where they are those that `spots_of` finds
abbrev pub WordsAreAsWritten : Type 0
WordsAreAsWritten = (text : List ℕ) → (spots : List Spot) → IsWritten text spots ↔ (spots ≡ spots_of text)

-- ---- declarations; a text in memory has fewer than 2 ^ 64 bytes

-- reading gives a definition exactly where the words of the text declare it
abbrev pub DefinitionIsRead : Type 0
DefinitionIsRead = (text : List ℕ) → length text < 2 ^ 64 → (definition : Definition) → (definition_of text ≡ Ok definition) ↔ Declares (words_of (spots_of text)) definition

-- and an offset exactly where the text is refused there
abbrev pub RefusalIsRead : Type 0
RefusalIsRead = (text : List ℕ) → length text < 2 ^ 64 → (offset : ℕ) → (definition_of text ≡ Err offset) ↔ IsRefusedAt text offset

-- each text declares a definition or is refused
abbrev pub DeclaredOrRefused : Type 0
DeclaredOrRefused = (text : List ℕ) → length text < 2 ^ 64 → ((definition : Definition) × Declares (words_of (spots_of text)) definition) ⊎ ((offset : ℕ) × IsRefusedAt text offset)

-- none is both
abbrev pub NeverBoth : Type 0
NeverBoth = (text : List ℕ) → (definition : Definition) → (offset : ℕ) → Declares (words_of (spots_of text)) definition → IsRefusedAt text offset → ⊥

-- none declares two definitions
abbrev pub OneDefinition : Type 0
OneDefinition = (text : List ℕ) → (one other : Definition) → Declares (words_of (spots_of text)) one → Declares (words_of (spots_of text)) other → one ≡ other

-- and none is refused at two offsets
abbrev pub OneRefusal : Type 0
OneRefusal = (text : List ℕ) → (one other : ℕ) → IsRefusedAt text one → IsRefusedAt text other → one ≡ other

-- the cause is that of the offset at which the text is refused
abbrev pub CauseIsAtTheOffset : Type 0
CauseIsAtTheOffset = (text : List ℕ) → (offset : ℕ) → definition_of text ≡ Err offset → IsRefusedFor text offset (cause_in text)

-- ---- rows; an event is a definition (`IsDefinition`), as each that was parsed is

-- pairs give a row, as a function, exactly where it is a row of the event that they give as a map from names
abbrev pub RowIsGiven : Type 0
RowIsGiven = (definition : Definition) → IsDefinition definition → (pairs : List Pair) → (row : Cells) → (row_of definition pairs ≡ Ok row) ↔ (IsRowOf definition row × Give definition.fields pairs row)

-- and a name exactly where a pair of it is the first that is wrong, or with none wrong the first field that is missing has it
abbrev pub RefusalIsGiven : Type 0
RefusalIsGiven = (definition : Definition) → IsDefinition definition → (pairs : List Pair) → (name : List ℕ)
    → ((bad : BadRow) × (row_of definition pairs ≡ Err bad) × (bad.field ≡ name)) ↔ (IsWrongPair definition.fields pairs name ⊎ IsMissingField definition.fields pairs name)

-- the pair to blame is the first that is wrong, and the cause is what is wrong with it; with none wrong a field is missing
abbrev pub CauseIsAtThePair : Type 0
CauseIsAtThePair = (definition : Definition) → IsDefinition definition → (pairs : List Pair) → (bad : BadRow) → row_of definition pairs ≡ Err bad
    → IsToldOf definition.fields pairs bad

-- ---- operands

-- a field's name means the value that the row, as a map from names, has there; a name that is no field's means none
abbrev pub OperandIsByName : Type 0
OperandIsByName = (fields : List Field) → (emission : Emission) → (name : List ℕ)
    → option_and_then (operand_value emission) (operand_from 0 fields name) ≡ value_at fields emission.values name

-- ---- payloads; a byte is below 256

-- bytes are read as a row exactly where it is a row of the event and they are its payload
abbrev pub PayloadIsRead : Type 0
PayloadIsRead = (definition : Definition) → (bytes : List ℕ) → All (λ byte. byte < 256) bytes → (row : Cells) → (row_from definition bytes ≡ Some row) ↔ (IsRowOf definition row × (bytes ≡ payload_of row))

-- two rows of an event with one payload are one row
abbrev pub OneRow : Type 0
OneRow = (definition : Definition) → (one other : Cells) → IsRowOf definition one → IsRowOf definition other → payload_of one ≡ payload_of other → one ≡ other

-- a row's payload has as many bytes as its event's payloads take
abbrev pub PayloadHasItsSize : Type 0
PayloadHasItsSize = (definition : Definition) → (row : Cells) → IsRowOf definition row → length (payload_of row) ≡ payload_size_of definition
