-- The most that are open at once of a tree's tokens is the tree's depth.
use Rattle.std.proofs.Common.{◌≡◌, ℕ, ◌+◌, max, List, [], ◌∷◌, ◌++◌, length, sym, ap, ◌∙◌, arith, append_assoc, append-nil}
use Rattle.std.specs.List.{sum}
use Rattle.trace_filter.specs.Tokens.{Token, Close, AndAnd, OrOr}
use Rattle.trace_filter.specs.Grammar.{Expr, AllOf, Or, Conj, Only, And, Unary, Not, Group, Test, expr_tokens, conj_tokens, unary_tokens, Spells, deepest, depth_of, depth, conj_depth, unary_depth}
use Rattle.trace_filter.proofs.Sums.{sum-cons}

-- within a part of a tree its depth more is open than around it, and behind it no `!` that ends with it
mutual
  expr_deepest : (e : Expr) (outer : List ℕ) (rest : List Token)
      → deepest (record { bangs = 0; outer = outer }) (expr_tokens e ++ rest) ≡ max (length outer + sum outer + depth e) (deepest (record { bangs = 0; outer = outer }) rest)
  expr_deepest (AllOf c) outer rest = conj_deepest c outer rest
  expr_deepest (Or e c) outer rest =
      let cut = ap (deepest (record { bangs = 0; outer = outer })) (append_assoc (expr_tokens e) (OrOr ∷ conj_tokens c) rest) in
      omega (arith, cut, expr_deepest e outer (OrOr ∷ (conj_tokens c ++ rest)), conj_deepest c outer rest)

  conj_deepest : (c : Conj) (outer : List ℕ) (rest : List Token)
      → deepest (record { bangs = 0; outer = outer }) (conj_tokens c ++ rest) ≡ max (length outer + sum outer + conj_depth c) (deepest (record { bangs = 0; outer = outer }) rest)
  conj_deepest (Only u) outer rest = omega (arith, unary_deepest u 0 outer rest)
  conj_deepest (And c u) outer rest =
      let cut = ap (deepest (record { bangs = 0; outer = outer })) (append_assoc (conj_tokens c) (AndAnd ∷ unary_tokens u) rest) in
      omega (arith, cut, conj_deepest c outer (AndAnd ∷ (unary_tokens u ++ rest)), unary_deepest u 0 outer rest)

  unary_deepest : (u : Unary) (bangs : ℕ) (outer : List ℕ) (rest : List Token)
      → deepest (record { bangs = bangs; outer = outer }) (unary_tokens u ++ rest) ≡ max (bangs + length outer + sum outer + unary_depth u) (deepest (record { bangs = 0; outer = outer }) rest)
  unary_deepest (Not u) bangs outer rest = omega (arith, unary_deepest u (bangs + 1) outer rest)
  unary_deepest (Group e) bangs outer rest =
      let cut = ap (deepest (record { bangs = 0; outer = bangs ∷ outer })) (append_assoc (expr_tokens e) (Close ∷ []) rest) in
      omega (arith, cut, expr_deepest e (bangs ∷ outer) (Close ∷ rest), sum-cons bangs outer)
  unary_deepest (Test name by literal) bangs outer rest = omega arith

pub depth_is : (tokens : List Token) (tree : Expr) → Spells tokens tree → depth_of tokens ≡ depth tree
depth_is tokens tree spelled =
    let whole : depth_of (expr_tokens tree ++ []) ≡ depth tree = omega (arith, expr_deepest tree [] []) in
    ap depth_of (sym spelled ∙ sym (append-nil (expr_tokens tree))) ∙ whole
