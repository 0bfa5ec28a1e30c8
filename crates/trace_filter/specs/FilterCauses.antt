-- What could go on where a filter is refused for its syntax: told by the last token before that offset.
use Rattle.std.specs.Prelude.{◌≡◌, ℕ, Bool, IsTrue, ◌==◌, ◌||◌, nat_lt, if◌then◌else◌, List, [], ◌∷◌, take, Option, None, Some, option_and_then}
use Rattle.std.specs.List.{list_all, last_or, prefix_len}
use Rattle.trace_filter.specs.declared.fault.FilterCause.{FilterCause}
use Rattle.trace_filter.specs.declared.fault.FilterCause.TheVariants as cause
use Rattle.trace_filter.specs.declared.syntax.Due.{Due}
use Rattle.trace_filter.specs.declared.syntax.Due.TheVariants as due
use Rattle.trace_filter.specs.Tokens.{Word, Quoted, Token, Open, Close, Bang, AndAnd, OrOr, Compare, Name, Value, Illegible, Spot, tokens_of}
use Rattle.trace_filter.specs.Syntax.{Standing, step}

-- `=` (61), `!` (33), `<` (60), `>` (62), `~` (126): bytes of operators that a bare word may have
abbrev pub is_sign : ℕ → Bool
is_sign b = b == 61 || b == 33 || b == 60 || b == 62 || b == 126

-- what could go on after a token; Illegible never comes before an offset that is told
abbrev pub cause_after : Token → FilterCause
cause_after Open = cause.Operand
cause_after Close = cause.Joint
cause_after Bang = cause.Operand
cause_after AndAnd = cause.Operand
cause_after OrOr = cause.Operand
cause_after (Compare comparison) = cause.Value
cause_after (Name bytes) = cause.Operator
cause_after (Value (Word bytes)) = if list_all is_sign bytes then cause.JointAfterSigns else cause.Joint
cause_after (Value (Quoted bytes)) = cause.Joint
cause_after Illegible = cause.Operand

-- after the last token that begins before the offset; offsets rise from token to token. Before the first it is `before`
abbrev pub cause_from : FilterCause → List Spot → ℕ → FilterCause
cause_from before [] at = before
cause_from before (spot ∷ spots) at = if nat_lt spot.at at then cause_from (cause_after spot.token) spots at else before

-- what could go on at an offset; where a text ends too early that is its length
abbrev pub cause_at : List Spot → ℕ → FilterCause
cause_at spots at = cause_from cause.Operand spots at

-- ---- the same by the grammar, as `Syntax` reads it

-- what is due where a cause is told
abbrev pub due_at : FilterCause → Due
due_at cause.Operand = due.Operand
due_at cause.Operator = due.Operator
due_at cause.Value = due.Value
due_at cause.Joint = due.Joint
due_at cause.JointAfterSigns = due.Joint

-- where the tokens that begin before the offset lead
abbrev pub standing_before : Standing → List Spot → ℕ → Option Standing
standing_before standing [] at = Some standing
standing_before standing (spot ∷ spots) at =
    if nat_lt spot.at at then option_and_then (λ next. standing_before next spots at) (step standing spot.token) else Some standing

-- ---- the last token before an offset

abbrev pub last_before : List Spot → ℕ → Option Token
last_before spots at = last_or None (tokens_of (take (prefix_len (λ spot. nat_lt spot.at at) spots) spots))

-- it is a bare word that has bytes of operators alone
pub record IsAfterSigns (spots : List Spot) (at : ℕ) : Type 0 where
  pub word : List ℕ
  pub last : last_before spots at ≡ Some (Value (Word word))
  pub signs : IsTrue (list_all is_sign word)
