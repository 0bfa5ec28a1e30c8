-- A declaration read word by word: the definition that a text declares, or the offset at which it is refused, and why.
-- That this reading is what `Definitions` says of words and offsets is stated in `Laws`, as `DefinitionIsRead` and `RefusalIsRead`. That the cause
-- is that of the same offset is `CauseIsAtTheOffset` there.
use Rattle.std.specs.Prelude.{◌≡◌, ℕ, ◌+◌, ◌*◌, ◌-◌, Bool, true, false, not, ◌&&◌, ◌||◌, ◌==◌, nat_lt, nat_le, if◌then◌else◌, codes, bytes_eq, List, [], ◌∷◌, ◌++◌, length, Option, None, Some, option_map, option_and_then, ok_or, Result, Ok, Err, take, drop}
use Rattle.std.specs.Char.{is_ascii_digit}
use Rattle.std.specs.List.{prefix_len}
use Rattle.trace_format.specs.declared.kind.Kind.TheVariants.{Number, Char}
use Rattle.trace_format.specs.declared.event.Field.{Field}
use Rattle.trace_format.specs.declared.fault.DeclarationCause.{DeclarationCause}
use Rattle.trace_format.specs.declared.fault.DeclarationCause.TheVariants.{EventName, FieldType, UnsignedType, StringField, FieldName, ReservedName, RepeatedName, Semicolon}
use Rattle.trace_format.specs.declared.fault.DefinitionFault.{DefinitionFault}
use Rattle.trace_format.specs.declared.fault.DefinitionFault.TheVariants.{BadDefinition, Memory}
use Rattle.trace_format.specs.declared.reader.Due.{Due}
use Rattle.trace_format.specs.declared.reader.Due.TheVariants as due
use Rattle.trace_format.specs.Kinds.{type_of, unsigned_type_of}
use Rattle.trace_lex.specs.Names.{is_name}
use Rattle.trace_lex.specs.Prefixes.{is_not}
use Rattle.trace_format.specs.Words.{Spot, semicolon, spots_of}
use Rattle.trace_format.specs.Definitions.{Definition, IsRefusedAt, is_reserved, has_field}

-- what was read, and what may stand next
pub record Standing : Type 0 where
  pub due : Due
  pub name : List ℕ
  pub fields : List Field

-- a length from 1 to 64 without a leading 0, with the bracket behind it (93)
abbrev pub length_of : List ℕ → Option ℕ
length_of [] = None
length_of (a ∷ []) = None
length_of (a ∷ b ∷ []) = if (is_ascii_digit a && not (a == 48)) && b == 93 then Some (a - 48) else None
length_of (a ∷ b ∷ c ∷ []) = if ((is_ascii_digit a && not (a == 48)) && is_ascii_digit b) && (nat_le (10 * (a - 48) + (b - 48)) 64 && c == 93) then Some (10 * (a - 48) + (b - 48)) else None
length_of (a ∷ b ∷ c ∷ d ∷ bytes) = None

-- a text field: what stands before the first `[` (91) is its name, and what stands behind it its length
abbrev pub text_field_at : ℕ → List ℕ → Option Field
text_field_at size word = option_map (λ n. record { name = take size word; kind = Char n }) (length_of (drop (size + 1) word))

abbrev pub text_field_of : List ℕ → Option Field
text_field_of word = text_field_at (prefix_len (is_not 91) word) word

-- behind a field, if it may stand there
abbrev pub with_field : Standing → Field → Option Standing
with_field standing field = if is_name field.name && not (is_reserved field.name || has_field standing.fields field.name) then Some (record { due = due.Joint; name = standing.name; fields = standing.fields ++ field ∷ [] }) else None

-- where something else is due
abbrev pub with_due : Standing → Due → Standing
with_due standing next = record { due = next; name = standing.name; fields = standing.fields }

-- one more word; None where it cannot stand there
abbrev pub step_at : Due → Standing → List ℕ → Option Standing
step_at due.Name standing word = if is_name word then Some (record { due = due.Type; name = word; fields = standing.fields }) else None
step_at due.Type standing word = if bytes_eq word (codes "unsigned") then Some (with_due standing due.Unsigned)
    else if bytes_eq word (codes "char") then Some (with_due standing due.TextField)
    else option_map (λ t. with_due standing (due.NumberField t)) (type_of word)
step_at due.Unsigned standing word = option_map (λ t. with_due standing (due.NumberField t)) (unsigned_type_of word)
step_at (due.NumberField t) standing word = with_field standing (record { name = word; kind = Number t })
step_at due.TextField standing word = option_and_then (with_field standing) (text_field_of word)
step_at due.Joint standing word = if bytes_eq word semicolon then Some (with_due standing due.Type) else None

unfoldable pub step : Standing → List ℕ → Option Standing
step standing word = step_at standing.due standing word

-- the reader takes a word exactly where it can stand, and then stands behind it
abbrev pub Takes : Option Standing → Bool → Standing → Type 0
Takes next true standing = next ≡ Some standing
Takes next false standing = next ≡ None

-- where the end may stand, if there is a field by then: where a type or a `;` is due
abbrev pub may_end : Due → Bool
may_end due.Name = false
may_end due.Type = true
may_end due.Unsigned = false
may_end (due.NumberField t) = false
may_end due.TextField = false
may_end due.Joint = true

-- the definition that was read, if it may end there
abbrev pub finish : Standing → Option Definition
finish standing = if may_end standing.due && nat_lt 0 (length standing.fields) then Some (record { name = standing.name; fields = standing.fields }) else None

abbrev pub start : Standing
start = record { due = due.Name; name = []; fields = [] }

infixl 10 ◌>>=◌
abbrev pub ◌>>=◌ : {A B : Type 0} → Result A ℕ → (A → Result B ℕ) → Result B ℕ
(Ok x) >>= f = f x
(Err offset) >>= f = Err offset

-- the definition, or the offset of the first word that cannot stand there, or the end, which is at `len`
abbrev pub reading : Standing → List Spot → ℕ → Result Definition ℕ
reading standing [] len = ok_or (finish standing) len
reading standing (spot ∷ spots) len = ok_or (step standing spot.word) spot.at >>= λ next. reading next spots len

-- the definition that a text declares, or the offset at which it is refused
unfoldable pub definition_of : List ℕ → Result Definition ℕ
definition_of text = reading start (spots_of text) (length text)

-- ---- why a text is refused

-- a word that is no name of one more number field: no name, one that no field may have, or else one that a field has already
abbrev pub name_cause : List ℕ → DeclarationCause
name_cause word = if not (is_name word) then FieldName else (if is_reserved word then ReservedName else RepeatedName)

-- a word that cannot stand where this is due
abbrev pub cause_of : Due → List ℕ → DeclarationCause
cause_of due.Name word = EventName
cause_of due.Type word = FieldType
cause_of due.Unsigned word = UnsignedType
cause_of (due.NumberField t) word = name_cause word
cause_of due.TextField word = StringField
cause_of due.Joint word = Semicolon

-- the cause at a word, if it cannot stand there, or else at one after it
abbrev pub cause_or : Option Standing → DeclarationCause → (Standing → DeclarationCause) → DeclarationCause
cause_or None cause rest = cause
cause_or (Some next) cause rest = rest next

-- what is wrong with the first word that cannot stand there, or at the end, where nothing stands
abbrev pub cause_from : Standing → List Spot → DeclarationCause
cause_from standing [] = cause_of standing.due []
cause_from standing (spot ∷ spots) = cause_or (step standing spot.word) (cause_of standing.due spot.word) (λ next. cause_from next spots)

-- why a text that declares no event is refused, at the offset that `definition_of` tells
unfoldable pub cause_in : List ℕ → DeclarationCause
cause_in text = cause_from start (spots_of text)

-- the cause told is that of the text
abbrev pub HasCause : List ℕ → DefinitionFault → Type 0
HasCause text (BadDefinition offset cause) = cause ≡ cause_in text
HasCause text Memory = Unit {0}

-- ---- what `parse` answers

-- what `parse` answers is what reading gives, unless memory was refused
abbrev pub IsRead : Result Definition DefinitionFault → Result Definition ℕ → Type 0
IsRead (Ok definition) read = read ≡ Ok definition
IsRead (Err (BadDefinition offset cause)) read = read ≡ Err offset
IsRead (Err Memory) read = Unit {0}

-- a text was refused at its offset, or for memory
abbrev pub IsRefusal : List ℕ → DefinitionFault → Type 0
IsRefusal text (BadDefinition offset cause) = IsRefusedAt text offset
IsRefusal text Memory = Unit {0}
