-- A tree can be read back from its tokens, so no other tree has them.
use Rattle.std.proofs.Common.{◌≡◌, ℕ, zero, suc, List, [], ◌∷◌, ◌++◌, Option, None, Some, refl, sym, ap, ◌∙◌, append_assoc, append-nil}
use Rattle.trace_filter.specs.Tokens.{Token, Open, Close, Bang, AndAnd, OrOr, Compare, Name, Value}
use Rattle.trace_filter.specs.Grammar.{Expr, AllOf, Or, Conj, Only, And, Unary, Not, Group, Test, expr_tokens, conj_tokens, unary_tokens, Spells}
use Rattle.trace_filter.proofs.Options.{some_is}
use Rattle.trace_filter.proofs.Trees.{Level, expr_of, conj_of, not_of, closed_conj}

-- ---- reading, with the levels outside, innermost first

-- the level where an operand of a conjunction is due
abbrev level_of : Option Expr → Option Conj → Level
level_of alternatives factors = record { alternatives = alternatives; factors = factors; bangs = 0 }

abbrev mutual
  -- before an operand
  operand_read : Level → List Level → List Token → Option Expr
  operand_read level outer (Bang ∷ tokens) = operand_read (record { alternatives = level.alternatives; factors = level.factors; bangs = suc level.bangs }) outer tokens
  operand_read level outer (Open ∷ tokens) = operand_read (level_of None None) (level ∷ outer) tokens
  operand_read level outer (Name name ∷ Compare by ∷ Value literal ∷ tokens) = joint_read level.alternatives (closed_conj level (Test name by literal)) outer tokens
  operand_read level outer tokens = None

  -- behind an operand
  joint_read : Option Expr → Conj → List Level → List Token → Option Expr
  joint_read e c outer (AndAnd ∷ tokens) = operand_read (level_of e (Some c)) outer tokens
  joint_read e c outer (OrOr ∷ tokens) = operand_read (level_of (Some (expr_of e c)) None) outer tokens
  joint_read e c (level ∷ outer) (Close ∷ tokens) = joint_read level.alternatives (closed_conj level (Group (expr_of e c))) outer tokens
  joint_read e c [] [] = Some (expr_of e c)
  joint_read e c outer tokens = None

-- ---- what is read of a tree's tokens

abbrev first_of : Expr → Option Expr
first_of (AllOf c) = None
first_of (Or e c) = Some e

abbrev last_of : Expr → Conj
last_of (AllOf c) = c
last_of (Or e c) = c

put_together : (e : Expr) → expr_of (first_of e) (last_of e) ≡ e
put_together (AllOf c) = refl
put_together (Or e c) = refl

not_inside : (n : ℕ) (u : Unary) → not_of n (Not u) ≡ Not (not_of n u)
not_inside zero u = refl
not_inside (suc n) u = ap Not (not_inside n u)

mutual
  expr_read : (e : Expr) (outer : List Level) (rest : List Token) → operand_read (level_of None None) outer (expr_tokens e ++ rest) ≡ joint_read (first_of e) (last_of e) outer rest
  expr_read (AllOf c) outer rest = conj_read c None outer rest
  expr_read (Or e c) outer rest =
      ap (operand_read (level_of None None) outer) (append_assoc (expr_tokens e) (OrOr ∷ conj_tokens c) rest)
      ∙ expr_read e outer (OrOr ∷ (conj_tokens c ++ rest))
      ∙ ap (λ whole. operand_read (level_of (Some whole) None) outer (conj_tokens c ++ rest)) (put_together e)
      ∙ conj_read c (Some e) outer rest

  conj_read : (c : Conj) (alternatives : Option Expr) (outer : List Level) (rest : List Token) → operand_read (level_of alternatives None) outer (conj_tokens c ++ rest) ≡ joint_read alternatives c outer rest
  conj_read (Only u) alternatives outer rest = unary_read u (level_of alternatives None) outer rest
  conj_read (And c u) alternatives outer rest =
      ap (operand_read (level_of alternatives None) outer) (append_assoc (conj_tokens c) (AndAnd ∷ unary_tokens u) rest)
      ∙ conj_read c alternatives outer (AndAnd ∷ (unary_tokens u ++ rest))
      ∙ unary_read u (level_of alternatives (Some c)) outer rest

  unary_read : (u : Unary) (level : Level) (outer : List Level) (rest : List Token) → operand_read level outer (unary_tokens u ++ rest) ≡ joint_read level.alternatives (closed_conj level u) outer rest
  unary_read (Not u) level outer rest =
      unary_read u (record { alternatives = level.alternatives; factors = level.factors; bangs = suc level.bangs }) outer rest
      ∙ ap (λ operand. joint_read level.alternatives (conj_of level.factors operand) outer rest) (sym (not_inside level.bangs u))
  unary_read (Group e) level outer rest =
      ap (operand_read (level_of None None) (level ∷ outer)) (append_assoc (expr_tokens e) (Close ∷ []) rest)
      ∙ expr_read e (level ∷ outer) (Close ∷ rest)
      ∙ ap (λ whole. joint_read level.alternatives (closed_conj level (Group whole)) outer rest) (put_together e)
  unary_read (Test name by literal) level outer rest = refl

read_back : (e : Expr) → operand_read (level_of None None) [] (expr_tokens e) ≡ Some e
read_back e = ap (operand_read (level_of None None) []) (sym (append-nil (expr_tokens e))) ∙ expr_read e [] [] ∙ ap Some (put_together e)

pub one_tree : (tokens : List Token) (one other : Expr) → Spells tokens one → Spells tokens other → one ≡ other
one_tree tokens one other first second = some_is (sym (read_back one) ∙ ap (operand_read (level_of None None) []) (first ∙ sym second) ∙ read_back other)
