-- The tokens of a tree are taken one by one, and lead behind an operand.
use Rattle.std.proofs.Common.{◌≡◌, ℕ, ◌+◌, List, [], ◌∷◌, ◌++◌, Option, None, Some, option_and_then, refl, sym, ap, ◌∙◌, append_assoc, append-nil}
use Rattle.trace_filter.specs.declared.syntax.Due.{Due}
use Rattle.trace_filter.specs.declared.syntax.Due.TheVariants as due
use Rattle.trace_filter.specs.Tokens.{Token, Close, AndAnd, OrOr}
use Rattle.trace_filter.specs.Grammar.{Expr, AllOf, Or, Conj, Only, And, Unary, Not, Group, Test, expr_tokens, conj_tokens, unary_tokens, IsWhole, Begins, Opened, behind}
use Rattle.trace_filter.specs.Syntax.{Standing, step, start}
use Rattle.trace_filter.proofs.Options.{and_then_some}

-- where tokens lead
abbrev pub run : Standing → List Token → Option Standing
run standing [] = Some standing
run standing (token ∷ tokens) = option_and_then (λ next. run next tokens) (step standing token)

pub run-append : (standing : Standing) (front back : List Token) → run standing (front ++ back) ≡ option_and_then (λ next. run next back) (run standing front)
run-append standing [] back = refl
run-append standing (token ∷ front) back = by (step standing token) (λ next. run-append next front back)
  where
    by : (next : Option Standing) → ((s : Standing) → run s (front ++ back) ≡ option_and_then (λ t. run t back) (run s front))
        → option_and_then (λ s. run s (front ++ back)) next ≡ option_and_then (λ t. run t back) (option_and_then (λ s. run s front) next)
    by None rest = refl
    by (Some s) rest = rest s

abbrev pub standing_at : Due → ℕ → List ℕ → Standing
standing_at d bangs outer = record { due = d; opened = record { bangs = bangs; outer = outer } }

mutual
  unfolding step

  expr_runs : (e : Expr) (outer : List ℕ) (rest : List Token) → run (standing_at due.Operand 0 outer) (expr_tokens e ++ rest) ≡ run (standing_at due.Joint 0 outer) rest
  expr_runs (AllOf c) outer rest = conj_runs c outer rest
  expr_runs (Or e c) outer rest = ap (run (standing_at due.Operand 0 outer)) (append_assoc (expr_tokens e) (OrOr ∷ conj_tokens c) rest) ∙ expr_runs e outer (OrOr ∷ (conj_tokens c ++ rest)) ∙ conj_runs c outer rest

  conj_runs : (c : Conj) (outer : List ℕ) (rest : List Token) → run (standing_at due.Operand 0 outer) (conj_tokens c ++ rest) ≡ run (standing_at due.Joint 0 outer) rest
  conj_runs (Only u) outer rest = unary_runs u 0 outer rest
  conj_runs (And c u) outer rest = ap (run (standing_at due.Operand 0 outer)) (append_assoc (conj_tokens c) (AndAnd ∷ unary_tokens u) rest) ∙ conj_runs c outer (AndAnd ∷ (unary_tokens u ++ rest)) ∙ unary_runs u 0 outer rest

  unary_runs : (u : Unary) (bangs : ℕ) (outer : List ℕ) (rest : List Token) → run (standing_at due.Operand bangs outer) (unary_tokens u ++ rest) ≡ run (standing_at due.Joint 0 outer) rest
  unary_runs (Not u) bangs outer rest = unary_runs u (bangs + 1) outer rest
  unary_runs (Group e) bangs outer rest = ap (run (standing_at due.Operand 0 (bangs ∷ outer))) (append_assoc (expr_tokens e) (Close ∷ []) rest) ∙ expr_runs e (bangs ∷ outer) (Close ∷ rest)
  unary_runs (Test name comparison literal) bangs outer rest = refl

pub tree_runs : (e : Expr) → run start (expr_tokens e) ≡ Some (standing_at due.Joint 0 [])
tree_runs e = ap (run start) (sym (append-nil (expr_tokens e))) ∙ expr_runs e [] []

pub whole_runs : (tokens : List Token) → IsWhole tokens → run start tokens ≡ Some (standing_at due.Joint 0 [])
whole_runs tokens whole = ap (run start) (sym whole.spelled) ∙ tree_runs whole.tree

pub record Leads (from : Standing) (tokens : List Token) : Type 0 where
  pub to : Standing
  pub leads : run from tokens ≡ Some to

-- what begins a filter can be taken
pub begins_run : (tokens : List Token) → Begins tokens → Leads start tokens
begins_run tokens begins =
    let all : run start (tokens ++ begins.rest) ≡ Some (standing_at due.Joint 0 []) = ap (run start) (sym begins.spelled) ∙ tree_runs begins.tree in
    let made = and_then_some (λ next. run next begins.rest) (run start tokens) (standing_at due.Joint 0 []) (sym (run-append start tokens begins.rest) ∙ all) in
    record { to = made.value; leads = made.was }

-- ---- what is open

abbrev pub opened_behind : Opened → List Token → Opened
opened_behind opened [] = opened
opened_behind opened (token ∷ tokens) = opened_behind (behind opened token) tokens
