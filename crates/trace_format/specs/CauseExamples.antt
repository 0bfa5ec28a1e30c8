-- Strings that declare no event and pairs that give no row, each with where and why it is refused, worked by hand. The checker computes them.
use Rattle.std.specs.Prelude.{◌≡◌, ℕ, List, [], ◌∷◌, map, Option, Some, None, Result, Err, codes}
use Rattle.trace_format.specs.declared.kind.Kind.TheVariants.{Number, Char}
use Rattle.trace_format.specs.declared.kind.NumberType.TheVariants.{U8}
use Rattle.trace_format.specs.declared.pair.Pair.{Pair}
use Rattle.trace_format.specs.declared.bad_row.BadRow.{BadRow}
use Rattle.trace_format.specs.declared.fault.DeclarationCause.{DeclarationCause}
use Rattle.trace_format.specs.declared.fault.DeclarationCause.TheVariants.{EventName, FieldType, UnsignedType, StringField, FieldName, ReservedName, RepeatedName, Semicolon}
use Rattle.trace_format.specs.declared.fault.RowCause.{RowCause}
use Rattle.trace_format.specs.declared.fault.RowCause.TheVariants.{Unknown, Repeated, NoNumber, OutOfRange, BadByte, TooLong, Missing}
use Rattle.trace_format.specs.Definitions.{Definition}
use Rattle.trace_format.specs.Cells.{Cells}
use Rattle.trace_format.specs.Reading.{definition_of, cause_in}
use Rattle.trace_format.specs.Rows.{row_of}

-- ---- declarations

pub record RefusedText : Type 0 where
  pub text : List ℕ
  pub cause : DeclarationCause
  pub offset : ℕ

infix 90 ◌tells◌at◌
abbrev pub ◌tells◌at◌ : List ℕ → DeclarationCause → ℕ → RefusedText
text tells cause at offset = record { text = text; cause = cause; offset = offset }

abbrev pub texts : List RefusedText
texts =
    codes "" tells EventName at 0
    ∷ codes "9x u64 n" tells EventName at 0
    ∷ codes "x;" tells FieldType at 1
    ∷ codes "x " tells FieldType at 2
    ∷ codes "x unsigned char n" tells UnsignedType at 11
    ∷ codes "x unsigned;" tells UnsignedType at 10
    ∷ codes "x u64 a, u32 b" tells FieldName at 6
    ∷ codes "x u64 hitcount" tells ReservedName at 6
    ∷ codes "x u64 n; u32 n" tells RepeatedName at 13
    ∷ codes "x u64 n m" tells Semicolon at 8
    ∷ codes "x char hitcount[4]" tells StringField at 7
    ∷ []

abbrev pub offset_told : RefusedText → Result Definition ℕ
offset_told refused = Err refused.offset

-- each is refused at this offset for this cause
pub record DeclarationsAreRefused : Type 0 where
  pub offsets : map (λ (refused : RefusedText). definition_of refused.text) texts ≡ map offset_told texts
  pub causes : map (λ (refused : RefusedText). cause_in refused.text) texts ≡ map (λ (refused : RefusedText). refused.cause) texts

-- ---- rows

-- `tick u8 n; char who[4]`
abbrev pub tick : Definition
tick = record {
  name = codes "tick";
  fields = record { name = codes "n"; kind = Number U8 } ∷ record { name = codes "who"; kind = Char 4 } ∷ [];
}

pub record RefusedPairs : Type 0 where
  pub pairs : List Pair
  pub told : BadRow

infix 90 ◌tell◌at◌of◌
abbrev pub ◌tell◌at◌of◌ : List Pair → RowCause → Option ℕ → List ℕ → RefusedPairs
pairs tell cause at pair of name = record { pairs = pairs; told = record { field = name; cause = cause; pair = pair } }

infix 95 ◌is◌
abbrev pub ◌is◌ : List ℕ → List ℕ → Pair
name is value = record { name = name; value = value }

abbrev pub lists : List RefusedPairs
lists =
    (codes "x" is codes "1" ∷ []) tell Unknown at Some 0 of codes "x"
    ∷ (codes "n" is codes "1" ∷ codes "n" is codes "y" ∷ []) tell Repeated at Some 1 of codes "n"
    ∷ (codes "n" is codes "99999999999999999999" ∷ []) tell NoNumber at Some 0 of codes "n"
    ∷ (codes "n" is codes "-1" ∷ []) tell OutOfRange at Some 0 of codes "n"
    ∷ (codes "n" is codes "1" ∷ codes "who" is (127 ∷ []) ∷ []) tell BadByte at Some 1 of codes "who"
    ∷ (codes "who" is codes "abcd" ∷ []) tell TooLong at Some 0 of codes "who"
    ∷ (codes "n" is codes "1" ∷ []) tell Missing at None of codes "who"
    ∷ []

abbrev pub what_is_told : RefusedPairs → Result Cells BadRow
what_is_told refused = Err refused.told

-- of each list this is told
abbrev pub RowsAreRefused : Type 0
RowsAreRefused = map (λ (refused : RefusedPairs). row_of tick refused.pairs) lists ≡ map what_is_told lists
