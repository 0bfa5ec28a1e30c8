-- Why a text declares no event, at the offset at which it is refused.
use Rattle.std.specs.Prelude.{◌≡◌, ℕ, List, [], ◌∷◌, ◌++◌, length, IsTrue, Option, None, Some, option_and_then}
use Rattle.trace_format.specs.declared.fault.DeclarationCause.{DeclarationCause}
use Rattle.trace_format.specs.declared.fault.DeclarationCause.TheVariants.{RepeatedName}
use Rattle.trace_format.specs.Words.{Spot, spots_of, words_of}
use Rattle.trace_format.specs.Definitions.{has_field}
use Rattle.trace_format.specs.Reading.{Standing, start, step, finish, cause_of}

-- what was read after more words, if each can stand there
abbrev pub standing_after : Standing → List (List ℕ) → Option Standing
standing_after standing [] = Some standing
standing_after standing (word ∷ words) = option_and_then (λ next. standing_after next words) (step standing word)

-- the offset of the first word; with none the text ends there, at `len`
abbrev pub first_offset : List Spot → ℕ → ℕ
first_offset [] len = len
first_offset (spot ∷ spots) len = spot.at

abbrev pub first_word : List Spot → List ℕ
first_word [] = []
first_word (spot ∷ spots) = spot.word

-- the first word cannot stand there; with none the declaration cannot end there
abbrev pub CannotGoOn : Standing → List Spot → Type 0
CannotGoOn standing [] = finish standing ≡ None
CannotGoOn standing (spot ∷ spots) = step standing spot.word ≡ None

-- each word before the offset can stand where it does, the one there can't, and the cause is what is wrong with it by what is due there; where that is
-- `RepeatedName`, a field has the name
pub record IsRefusedFor (text : List ℕ) (offset : ℕ) (cause : DeclarationCause) : Type 0 where
  pub front : List Spot
  pub rest : List Spot
  pub cut : spots_of text ≡ front ++ rest
  pub standing : Standing
  pub taken : standing_after start (words_of front) ≡ Some standing
  pub wrong : CannotGoOn standing rest
  pub at : first_offset rest (length text) ≡ offset
  pub told : cause ≡ cause_of standing.due (first_word rest)
  pub repeated : cause ≡ RepeatedName → IsTrue (has_field standing.fields (first_word rest))
