-- The steps of a filter, by what its tests are about.
use Rattle.std.proofs.Common.{◌≡◌, List, [], ◌∷◌, ◌++◌, refl, sym, ap, ◌∙◌, subst, append_assoc, append-nil}
use Rattle.std.specs.Option.{option_to_list}
use Rattle.trace_format.specs.declared.event.Field.{Field}
use Rattle.trace_filter.specs.declared.token.Comparison.{Comparison}
use Rattle.trace_format.specs.declared.operand.Operand.{Operand}
use Rattle.trace_format.specs.Operands.{operand_named, is_text}
use Rattle.trace_filter.specs.declared.fault.FilterFault.TheVariants.{NoSuchField}
use Rattle.trace_filter.specs.Tokens.{Token, Open, Close, Bang, AndAnd, OrOr, Compare, Name, Value, Illegible}
use Rattle.trace_filter.specs.Grammar.{Expr, AllOf, Or, Conj, Only, And, Unary, Not, Group, Test, expr_tokens, conj_tokens, unary_tokens}
use Rattle.trace_filter.specs.Subjects.{subjects_in, named_or}
use Rattle.trace_filter.specs.Steps.{Opens, Closes, Inverts, AndThen, OrElse, Checks, datum_at, moves_from, moves_about, subjects_tested}
use Rattle.trace_filter.proofs.Truths.{AllFit, unless_some}

-- each name has a comparison and a value behind it, and each value stands so
abbrev pub InTests : List Token → Type 0
InTests [] = Unit {0}
InTests (Open ∷ tokens) = InTests tokens
InTests (Close ∷ tokens) = InTests tokens
InTests (Bang ∷ tokens) = InTests tokens
InTests (AndAnd ∷ tokens) = InTests tokens
InTests (OrOr ∷ tokens) = InTests tokens
InTests (Compare by ∷ tokens) = ⊥
InTests (Name name ∷ Compare by ∷ Value literal ∷ tokens) = InTests tokens
InTests (Name name ∷ tokens) = ⊥
InTests (Value literal ∷ tokens) = ⊥
InTests (Illegible ∷ tokens) = ⊥

mutual
  expr_in_tests : (e : Expr) (rest : List Token) → InTests rest → InTests (expr_tokens e ++ rest)
  expr_in_tests (AllOf c) rest h = conj_in_tests c rest h
  expr_in_tests (Or e c) rest h = subst InTests (sym (append_assoc (expr_tokens e) (OrOr ∷ conj_tokens c) rest)) (expr_in_tests e (OrOr ∷ (conj_tokens c ++ rest)) (conj_in_tests c rest h))

  conj_in_tests : (c : Conj) (rest : List Token) → InTests rest → InTests (conj_tokens c ++ rest)
  conj_in_tests (Only u) rest h = unary_in_tests u rest h
  conj_in_tests (And c u) rest h = subst InTests (sym (append_assoc (conj_tokens c) (AndAnd ∷ unary_tokens u) rest)) (conj_in_tests c (AndAnd ∷ (unary_tokens u ++ rest)) (unary_in_tests u rest h))

  unary_in_tests : (u : Unary) (rest : List Token) → InTests rest → InTests (unary_tokens u ++ rest)
  unary_in_tests (Not u) rest h = unary_in_tests u rest h
  unary_in_tests (Group e) rest h = subst InTests (sym (append_assoc (expr_tokens e) (Close ∷ []) rest)) (expr_in_tests e (Close ∷ rest) h)
  unary_in_tests (Test name by literal) rest h = h

pub tree_in_tests : (e : Expr) → InTests (expr_tokens e)
tree_in_tests e = subst InTests (append-nil (expr_tokens e)) (expr_in_tests e [] tt)

-- the steps of tokens test what the names mean
module _ (fields : List Field) where
  pub tested_is : (subject : Operand) (by : Comparison) (tokens : List Token) → InTests tokens → AllFit fields subject tokens → subjects_tested (moves_from fields subject by tokens) ≡ subjects_in fields tokens
  tested_is subject by [] h fit = refl
  tested_is subject by (Open ∷ tokens) h fit = tested_is subject by tokens h fit.1
  tested_is subject by (Close ∷ tokens) h fit = tested_is subject by tokens h fit.1
  tested_is subject by (Bang ∷ tokens) h fit = tested_is subject by tokens h fit.1
  tested_is subject by (AndAnd ∷ tokens) h fit = tested_is subject by tokens h fit.1
  tested_is subject by (OrOr ∷ tokens) h fit = tested_is subject by tokens h fit.1
  tested_is subject by (Compare c ∷ tokens) h fit = absurd h
  tested_is subject by (Name name ∷ Compare c ∷ Value literal ∷ tokens) h fit =
      let found = unless_some (operand_named fields name) (NoSuchField 0) fit.0 in
      ap (λ o. named_or o subject ∷ subjects_tested (moves_from fields (named_or (operand_named fields name) subject) c tokens)) found.is
      ∙ ap (λ rest. found.subject ∷ rest) (tested_is (named_or (operand_named fields name) subject) c tokens h fit.1.1.1)
      ∙ ap (λ o. option_to_list o ++ subjects_in fields tokens) (sym found.is)
  tested_is subject by (Name name ∷ tokens) h fit = absurd h
  tested_is subject by (Value literal ∷ tokens) h fit = absurd h
  tested_is subject by (Illegible ∷ tokens) h fit = absurd h

  -- and are told by the tokens and what is tested
  pub about_is : (subject : Operand) (by : Comparison) (tokens : List Token) → moves_from fields subject by tokens ≡ moves_about (subjects_tested (moves_from fields subject by tokens)) by tokens
  about_is subject by [] = refl
  about_is subject by (Open ∷ tokens) = ap (λ moves. Opens ∷ moves) (about_is subject by tokens)
  about_is subject by (Close ∷ tokens) = ap (λ moves. Closes ∷ moves) (about_is subject by tokens)
  about_is subject by (Bang ∷ tokens) = ap (λ moves. Inverts ∷ moves) (about_is subject by tokens)
  about_is subject by (AndAnd ∷ tokens) = ap (λ moves. AndThen ∷ moves) (about_is subject by tokens)
  about_is subject by (OrOr ∷ tokens) = ap (λ moves. OrElse ∷ moves) (about_is subject by tokens)
  about_is subject by (Compare c ∷ tokens) = about_is subject c tokens
  about_is subject by (Name name ∷ tokens) = about_is (named_or (operand_named fields name) subject) by tokens
  about_is subject by (Value literal ∷ tokens) = ap (λ moves. Checks subject by (datum_at (is_text subject) literal) ∷ moves) (about_is subject by tokens)
  about_is subject by (Illegible ∷ tokens) = about_is subject by tokens
