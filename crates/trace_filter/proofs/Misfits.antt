-- The first fault of the tokens is that of the tests.
use Rattle.std.proofs.Common.{◌≡◌, ℕ, Bool, true, false, List, [], ◌∷◌, Option, None, Some, option_map, refl}
use Rattle.trace_format.specs.declared.event.Field.{Field}
use Rattle.trace_format.specs.declared.operand.Operand.{Operand}
use Rattle.trace_format.specs.Operands.{operand_named, is_text}
use Rattle.trace_filter.specs.declared.token.Comparison.{Comparison}
use Rattle.trace_filter.specs.declared.fault.FilterFault.TheVariants.{FilterSyntax, NoSuchField, WrongOperator}
use Rattle.trace_filter.specs.declared.fault.FilterCause.TheVariants as cause
use Rattle.trace_filter.specs.Tokens.{Literal, Token, Open, Close, Bang, AndAnd, OrOr, Compare, Name, Value, Illegible, Spot, tokens_of}
use Rattle.trace_filter.specs.Fields.{takes_at, fits_at, unless, or_later, test_fault, first_misfit}
use Rattle.trace_filter.specs.Subjects.{unless_named, named_or, first_fault}
use Rattle.trace_filter.proofs.TestedMoves.{InTests}

module _ (fields : List Field) where
  -- the two agree behind some tokens
  abbrev Agree : List Spot → Type 0
  Agree spots = (subject : Operand) → InTests (tokens_of spots) → first_fault fields subject spots ≡ first_misfit fields spots

  one_test : (name : List ℕ) (at : ℕ) (by : Comparison) (by_at : ℕ) (literal : Literal) (value_at : ℕ) (rest : List Spot) (subject : Operand)
      → InTests (tokens_of rest) → Agree rest
      → first_fault fields subject (record { at = at; token = Name name } ∷ record { at = by_at; token = Compare by } ∷ record { at = value_at; token = Value literal } ∷ rest)
      ≡ first_misfit fields (record { at = at; token = Name name } ∷ record { at = by_at; token = Compare by } ∷ record { at = value_at; token = Value literal } ∷ rest)
  one_test name at by by_at literal value_at rest subject h agree =
      named (operand_named fields name)
    where
      fits : (s : Operand) (takes fit : Bool)
          → or_later (unless takes (WrongOperator by_at)) (or_later (unless fit (FilterSyntax value_at cause.Value)) (first_fault fields s rest))
          ≡ or_later (or_later (unless takes (WrongOperator by_at)) (unless fit (FilterSyntax value_at cause.Value))) (first_misfit fields rest)
      fits s true true = agree s h
      fits s true false = refl
      fits s false fit = refl

      named : (o : Option Operand)
          → or_later (unless_named o (NoSuchField at))
          (or_later (unless (takes_at (is_text (named_or o subject)) by) (WrongOperator by_at)) (or_later (unless (fits_at (is_text (named_or o subject)) literal) (FilterSyntax value_at cause.Value)) (first_fault fields (named_or o subject) rest)))
          ≡ or_later (test_fault (option_map is_text o) at (record { at = by_at; token = Compare by }) (record { at = value_at; token = Value literal })) (first_misfit fields rest)
      named None = refl
      named (Some s) = fits s (takes_at (is_text s) by) (fits_at (is_text s) literal)

  -- a token that begins no test says nothing
  last_token : (token : Token) (at : ℕ) → Agree (record { at = at; token = token } ∷ [])
  last_token Open at subject h = refl
  last_token Close at subject h = refl
  last_token Bang at subject h = refl
  last_token AndAnd at subject h = refl
  last_token OrOr at subject h = refl
  last_token (Compare by) at subject h = absurd h
  last_token (Name name) at subject h = absurd h
  last_token (Value literal) at subject h = absurd h
  last_token Illegible at subject h = absurd h

  two_tokens : (token : Token) (at : ℕ) (next : Token) (next_at : ℕ) → Agree (record { at = next_at; token = next } ∷ []) → Agree (record { at = at; token = token } ∷ record { at = next_at; token = next } ∷ [])
  two_tokens Open at next next_at later subject h = later subject h
  two_tokens Close at next next_at later subject h = later subject h
  two_tokens Bang at next next_at later subject h = later subject h
  two_tokens AndAnd at next next_at later subject h = later subject h
  two_tokens OrOr at next next_at later subject h = later subject h
  two_tokens (Compare by) at next next_at later subject h = absurd h
  two_tokens (Name name) at (Compare by) next_at later subject h = absurd h
  two_tokens (Name name) at _ next_at later subject h = absurd h
  two_tokens (Value literal) at next next_at later subject h = absurd h
  two_tokens Illegible at next next_at later subject h = absurd h

  more_tokens : (token : Token) (at : ℕ) (next : Token) (next_at : ℕ) (third : Token) (third_at : ℕ) (rest : List Spot) → Agree (record { at = next_at; token = next } ∷ record { at = third_at; token = third } ∷ rest) → Agree rest
      → Agree (record { at = at; token = token } ∷ record { at = next_at; token = next } ∷ record { at = third_at; token = third } ∷ rest)
  more_tokens Open at next next_at third third_at rest later latest subject h = later subject h
  more_tokens Close at next next_at third third_at rest later latest subject h = later subject h
  more_tokens Bang at next next_at third third_at rest later latest subject h = later subject h
  more_tokens AndAnd at next next_at third third_at rest later latest subject h = later subject h
  more_tokens OrOr at next next_at third third_at rest later latest subject h = later subject h
  more_tokens (Compare by) at next next_at third third_at rest later latest subject h = absurd h
  more_tokens (Name name) at (Compare by) next_at (Value literal) third_at rest later latest subject h = one_test name at by next_at literal third_at rest subject h latest
  more_tokens (Name name) at _ next_at _ third_at rest later latest subject h = absurd h
  more_tokens (Value literal) at next next_at third third_at rest later latest subject h = absurd h
  more_tokens Illegible at next next_at third third_at rest later latest subject h = absurd h

  pub fault_is_misfit : (spots : List Spot) → Agree spots
  fault_is_misfit [] subject h = refl
  fault_is_misfit (spot ∷ []) subject h = last_token spot.token spot.at subject h
  fault_is_misfit (spot ∷ next ∷ []) subject h = two_tokens spot.token spot.at next.token next.at (fault_is_misfit (next ∷ [])) subject h
  fault_is_misfit (spot ∷ next ∷ third ∷ rest) subject h = more_tokens spot.token spot.at next.token next.at third.token third.at rest (fault_is_misfit (next ∷ third ∷ rest)) (fault_is_misfit rest) subject h
