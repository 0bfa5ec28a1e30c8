-- Tokens that can be taken spell a part of a tree, which can be completed.
use Rattle.std.proofs.Common.{◌≡◌, ℕ, zero, suc, ◌+◌, add-one, true, List, [], ◌∷◌, ◌++◌, map, Option, None, Some, option_map, refl, sym, ap, ◌∙◌, subst, append_assoc, append-nil}
use Rattle.std.specs.List.{list_all}
use Rattle.std.proofs.lemmas.Bool.{and_from}
use Rattle.trace_filter.specs.declared.token.Comparison.{Comparison}
use Rattle.trace_filter.specs.declared.token.Comparison.TheVariants as comparison
use Rattle.trace_filter.specs.declared.syntax.Due.{Due}
use Rattle.trace_filter.specs.declared.syntax.Due.TheVariants as due
use Rattle.trace_filter.specs.Tokens.{Literal, Word, Token, Open, Close, Bang, AndAnd, OrOr, Compare, Name, Value}
use Rattle.trace_filter.specs.Grammar.{Expr, AllOf, Or, Conj, Only, And, Unary, Not, Group, Test, expr_tokens, conj_tokens, unary_tokens, IsWhole, Begins, is_written}
use Rattle.trace_filter.specs.Syntax.{Standing, step, next_due, moved, start}
use Rattle.trace_filter.proofs.Options.{some_is, and_then_some}
use Rattle.trace_filter.proofs.Runs.{run, standing_at}

-- ---- a level: what was read inside one `(`, before an operand

pub record Level : Type 0 where
  pub alternatives : Option Expr
  pub factors : Option Conj
  pub bangs : ℕ

abbrev pub before_conj : Option Expr → List Token
before_conj None = []
before_conj (Some e) = expr_tokens e ++ OrOr ∷ []

abbrev pub before_unary : Option Conj → List Token
before_unary None = []
before_unary (Some c) = conj_tokens c ++ AndAnd ∷ []

abbrev pub bang_tokens : ℕ → List Token
bang_tokens zero = []
bang_tokens (suc n) = Bang ∷ bang_tokens n

bang_last : (n : ℕ) → bang_tokens n ++ Bang ∷ [] ≡ bang_tokens (suc n)
bang_last zero = refl
bang_last (suc n) = ap (λ tokens. Bang ∷ tokens) (bang_last n)

abbrev pub level_tokens : Level → List Token
level_tokens level = before_conj level.alternatives ++ (before_unary level.factors ++ bang_tokens level.bangs)

-- the levels outside, innermost first
abbrev pub stack : List Level → List Token
stack [] = []
stack (level ∷ levels) = stack levels ++ (level_tokens level ++ Open ∷ [])

abbrev pub bangs_of : List Level → List ℕ
bangs_of levels = map (λ level. level.bangs) levels

-- ---- trees put together

abbrev pub expr_of : Option Expr → Conj → Expr
expr_of None c = AllOf c
expr_of (Some e) c = Or e c

expr_of-tokens : (e : Option Expr) (c : Conj) → expr_tokens (expr_of e c) ≡ before_conj e ++ conj_tokens c
expr_of-tokens None c = refl
expr_of-tokens (Some e) c = sym (append_assoc (expr_tokens e) (OrOr ∷ []) (conj_tokens c))

abbrev pub conj_of : Option Conj → Unary → Conj
conj_of None u = Only u
conj_of (Some c) u = And c u

conj_of-tokens : (c : Option Conj) (u : Unary) → conj_tokens (conj_of c u) ≡ before_unary c ++ unary_tokens u
conj_of-tokens None u = refl
conj_of-tokens (Some c) u = sym (append_assoc (conj_tokens c) (AndAnd ∷ []) (unary_tokens u))

abbrev pub not_of : ℕ → Unary → Unary
not_of zero u = u
not_of (suc n) u = Not (not_of n u)

not_of-tokens : (n : ℕ) (u : Unary) → unary_tokens (not_of n u) ≡ bang_tokens n ++ unary_tokens u
not_of-tokens zero u = refl
not_of-tokens (suc n) u = ap (λ tokens. Bang ∷ tokens) (not_of-tokens n u)

regroup : {A : Type 0} (a b c d e : List A) → a ++ (b ++ (c ++ d)) ++ e ≡ a ++ (b ++ (c ++ (d ++ e)))
regroup a b c d e = simp append_assoc

-- one more operand in a level
abbrev pub closed_conj : Level → Unary → Conj
closed_conj level u = conj_of level.factors (not_of level.bangs u)

closed_tokens : (front : List Token) (level : Level) (u : Unary) → front ++ level_tokens level ++ unary_tokens u ≡ front ++ (before_conj level.alternatives ++ conj_tokens (closed_conj level u))
closed_tokens front level u =
    regroup front (before_conj level.alternatives) (before_unary level.factors) (bang_tokens level.bangs) (unary_tokens u)
    ∙ ap (λ tokens. front ++ (before_conj level.alternatives ++ (before_unary level.factors ++ tokens))) (sym (not_of-tokens level.bangs u))
    ∙ ap (λ tokens. front ++ (before_conj level.alternatives ++ tokens)) (sym (conj_of-tokens level.factors (not_of level.bangs u)))

-- a `)` makes an operand of the level inside
group_tokens : (levels : List Level) (level : Level) (e : Option Expr) (c : Conj) (rest : List Token)
    → stack (level ∷ levels) ++ (before_conj e ++ conj_tokens c) ++ Close ∷ rest
    ≡ stack levels ++ (before_conj level.alternatives ++ conj_tokens (closed_conj level (Group (expr_of e c)))) ++ rest
group_tokens levels level e c rest =
    ap (λ tokens. stack (level ∷ levels) ++ tokens ++ Close ∷ rest) (sym (expr_of-tokens e c))
    ∙ around (stack levels) (level_tokens level) (expr_tokens (expr_of e c)) rest
    ∙ ap (λ tokens. tokens ++ rest) (closed_tokens (stack levels) level (Group (expr_of e c)))
  where
    around : (a b d r : List Token) → a ++ (b ++ Open ∷ []) ++ d ++ Close ∷ r ≡ a ++ b ++ (Open ∷ (d ++ Close ∷ [])) ++ r
    around a b d r = simp append_assoc

-- ---- where tokens lead

-- before an operand
pub record InLevel (bangs : ℕ) (outer : List ℕ) (tokens : List Token) : Type 0 where
  levels : List Level
  level : Level
  bangs_is : level.bangs ≡ bangs
  outer_is : bangs_of levels ≡ outer
  spelled : tokens ≡ stack levels ++ level_tokens level

pub record BehindName (bangs : ℕ) (outer : List ℕ) (tokens : List Token) : Type 0 where
  front : List Token
  before : InLevel bangs outer front
  name : List ℕ
  spelled : tokens ≡ front ++ Name name ∷ []

pub record BehindComparison (bangs : ℕ) (outer : List ℕ) (tokens : List Token) : Type 0 where
  front : List Token
  before : InLevel bangs outer front
  name : List ℕ
  by : Comparison
  spelled : tokens ≡ front ++ Name name ∷ Compare by ∷ []

pub record BehindOperand (bangs : ℕ) (outer : List ℕ) (tokens : List Token) : Type 0 where
  levels : List Level
  alternatives : Option Expr
  last : Conj
  bangs_is : 0 ≡ bangs
  outer_is : bangs_of levels ≡ outer
  spelled : tokens ≡ stack levels ++ (before_conj alternatives ++ conj_tokens last)

abbrev pub StandsAt : Due → ℕ → List ℕ → List Token → Type 0
StandsAt due.Operand bangs outer tokens = InLevel bangs outer tokens
StandsAt due.Operator bangs outer tokens = BehindName bangs outer tokens
StandsAt due.Value bangs outer tokens = BehindComparison bangs outer tokens
StandsAt due.Joint bangs outer tokens = BehindOperand bangs outer tokens

pub record Stands (standing : Standing) (tokens : List Token) : Type 0 where
  stands : StandsAt standing.due standing.opened.bangs standing.opened.outer tokens

pub stands-start : Stands start []
stands-start = record { stands = record { levels = []; level = record { alternatives = None; factors = None; bangs = 0 }; bangs_is = refl; outer_is = refl; spelled = refl } }

one_bang : (bangs : ℕ) (outer : List ℕ) (tokens : List Token) → InLevel bangs outer tokens → InLevel (bangs + 1) outer (tokens ++ Bang ∷ [])
one_bang bangs outer tokens s = record {
  levels = s.levels;
  level = record { alternatives = s.level.alternatives; factors = s.level.factors; bangs = suc s.level.bangs };
  bangs_is = ap suc s.bangs_is ∙ sym (add-one bangs);
  outer_is = s.outer_is;
  spelled = ap (λ t. t ++ Bang ∷ []) s.spelled
      ∙ regroup (stack s.levels) (before_conj s.level.alternatives) (before_unary s.level.factors) (bang_tokens s.level.bangs) (Bang ∷ [])
      ∙ ap (λ t. stack s.levels ++ (before_conj s.level.alternatives ++ (before_unary s.level.factors ++ t))) (bang_last s.level.bangs);
}

one_open : (bangs : ℕ) (outer : List ℕ) (tokens : List Token) → InLevel bangs outer tokens → InLevel 0 (bangs ∷ outer) (tokens ++ Open ∷ [])
one_open bangs outer tokens s = record {
  levels = s.level ∷ s.levels;
  level = record { alternatives = None; factors = None; bangs = 0 };
  bangs_is = refl;
  outer_is = λ i. s.bangs_is i ∷ s.outer_is i;
  spelled = ap (λ t. t ++ Open ∷ []) s.spelled ∙ append_assoc (stack s.levels) (level_tokens s.level) (Open ∷ []) ∙ sym (append-nil (stack (s.level ∷ s.levels)));
}

operand : (bangs : ℕ) (outer : List ℕ) (front : List Token) (u : Unary) → InLevel bangs outer front → BehindOperand 0 outer (front ++ unary_tokens u)
operand bangs outer front u s = record {
  levels = s.levels;
  alternatives = s.level.alternatives;
  last = closed_conj s.level u;
  bangs_is = refl;
  outer_is = s.outer_is;
  spelled = ap (λ t. t ++ unary_tokens u) s.spelled ∙ closed_tokens (stack s.levels) s.level u;
}

one_both : (bangs : ℕ) (outer : List ℕ) (tokens : List Token) → BehindOperand bangs outer tokens → InLevel bangs outer (tokens ++ AndAnd ∷ [])
one_both bangs outer tokens s = record {
  levels = s.levels;
  level = record { alternatives = s.alternatives; factors = Some s.last; bangs = 0 };
  bangs_is = s.bangs_is;
  outer_is = s.outer_is;
  spelled = ap (λ t. t ++ AndAnd ∷ []) s.spelled ∙ around (stack s.levels) (before_conj s.alternatives) (conj_tokens s.last) (AndAnd ∷ []);
}
  where
    around : (a b c d : List Token) → a ++ (b ++ c) ++ d ≡ a ++ (b ++ (c ++ d ++ []))
    around a b c d = simp (append_assoc, append-nil)

one_either : (bangs : ℕ) (outer : List ℕ) (tokens : List Token) → BehindOperand bangs outer tokens → InLevel bangs outer (tokens ++ OrOr ∷ [])
one_either bangs outer tokens s = record {
  levels = s.levels;
  level = record { alternatives = Some (expr_of s.alternatives s.last); factors = None; bangs = 0 };
  bangs_is = s.bangs_is;
  outer_is = s.outer_is;
  spelled = ap (λ t. t ++ OrOr ∷ []) s.spelled
      ∙ ap (λ t. stack s.levels ++ t ++ OrOr ∷ []) (sym (expr_of-tokens s.alternatives s.last))
      ∙ around (stack s.levels) (expr_tokens (expr_of s.alternatives s.last)) (OrOr ∷ []);
}
  where
    around : (a b c : List Token) → a ++ b ++ c ≡ a ++ (b ++ c ++ [])
    around a b c = simp (append_assoc, append-nil)

one_close : (bangs b : ℕ) (outer : List ℕ) (tokens : List Token) → BehindOperand bangs (b ∷ outer) tokens → BehindOperand 0 outer (tokens ++ Close ∷ [])
one_close bangs b outer tokens s = by s.levels s.outer_is s.spelled
  where
    by : (levels : List Level) → bangs_of levels ≡ b ∷ outer → tokens ≡ stack levels ++ (before_conj s.alternatives ++ conj_tokens s.last) → BehindOperand 0 outer (tokens ++ Close ∷ [])
    by [] h e = absurd (cc)
    by (level ∷ levels) h e = record {
      levels = levels;
      alternatives = level.alternatives;
      last = closed_conj level (Group (expr_of s.alternatives s.last));
      bangs_is = refl;
      outer_is = cc;
      spelled = ap (λ t. t ++ Close ∷ []) e ∙ group_tokens levels level s.alternatives s.last [] ∙ append-nil (stack levels ++ (before_conj level.alternatives ++ conj_tokens (closed_conj level (Group (expr_of s.alternatives s.last)))));
    }

abbrev to : (next : Standing) (tokens : List Token) (d : Due) (bangs : ℕ) (outer : List ℕ) → Some (standing_at d bangs outer) ≡ Some next → StandsAt d bangs outer tokens → Stands next tokens
to next tokens d bangs outer h s = subst (λ n. Stands n tokens) (some_is h) (record { stands = s })

stands_at : (d : Due) (bangs : ℕ) (outer : List ℕ) (token : Token) (tokens : List Token) (next : Standing) → StandsAt d bangs outer tokens
    → option_map (moved (record { bangs = bangs; outer = outer }) token) (next_due d outer token) ≡ Some next → Stands next (tokens ++ token ∷ [])
stands_at due.Operand bangs outer Bang tokens next s h = to next (tokens ++ Bang ∷ []) due.Operand (bangs + 1) outer h (one_bang bangs outer tokens s)
stands_at due.Operand bangs outer Open tokens next s h = to next (tokens ++ Open ∷ []) due.Operand 0 (bangs ∷ outer) h (one_open bangs outer tokens s)
stands_at due.Operand bangs outer (Name name) tokens next s h = to next (tokens ++ Name name ∷ []) due.Operator bangs outer h (record { front = tokens; before = s; name = name; spelled = refl })
stands_at due.Operator bangs outer (Compare by) tokens next s h = to next (tokens ++ Compare by ∷ []) due.Value bangs outer h
    (record { front = s.front; before = s.before; name = s.name; by = by; spelled = ap (λ t. t ++ Compare by ∷ []) s.spelled ∙ append_assoc s.front (Name s.name ∷ []) (Compare by ∷ []) })
stands_at due.Value bangs outer (Value literal) tokens next s h = to next (tokens ++ Value literal ∷ []) due.Joint 0 outer h
    (subst (BehindOperand 0 outer) (sym (ap (λ t. t ++ Value literal ∷ []) s.spelled ∙ append_assoc s.front (Name s.name ∷ Compare s.by ∷ []) (Value literal ∷ []))) (operand bangs outer s.front (Test s.name s.by literal) s.before))
stands_at due.Joint bangs outer AndAnd tokens next s h = to next (tokens ++ AndAnd ∷ []) due.Operand bangs outer h (one_both bangs outer tokens s)
stands_at due.Joint bangs outer OrOr tokens next s h = to next (tokens ++ OrOr ∷ []) due.Operand bangs outer h (one_either bangs outer tokens s)
stands_at due.Joint bangs [] Close tokens next s h = absurd (cc)
stands_at due.Joint bangs (b ∷ outer) Close tokens next s h = to next (tokens ++ Close ∷ []) due.Joint 0 outer h (one_close bangs b outer tokens s)
stands_at due.Operand bangs outer token tokens next s h = absurd (cc)
stands_at due.Operator bangs outer token tokens next s h = absurd (cc)
stands_at due.Value bangs outer token tokens next s h = absurd (cc)
stands_at due.Joint bangs outer token tokens next s h = absurd (cc)

-- each token that can be taken leads to tokens that are one more
pub stands-step : (standing next : Standing) (tokens : List Token) (token : Token) → Stands standing tokens → step standing token ≡ Some next → Stands next (tokens ++ token ∷ [])
unfolding step
stands-step standing next tokens token s h = stands_at standing.due standing.opened.bangs standing.opened.outer token tokens next s.stands h

-- where tokens lead, they stand
pub stands-run : (standing last : Standing) (front tokens : List Token) → Stands standing front → run standing tokens ≡ Some last → Stands last (front ++ tokens)
stands-run standing last front [] s h = subst (Stands last) (sym (append-nil front)) (subst (λ n. Stands n front) (some_is h) s)
stands-run standing last front (token ∷ tokens) s h =
    let made = and_then_some (λ next. run next tokens) (step standing token) last h in
    subst (Stands last) (append_assoc front (token ∷ []) tokens) (stands-run made.value last (front ++ token ∷ []) tokens (stands-step standing made.value front token s made.was) made.gives)

-- ---- completion

abbrev closers : List Level → List Token
closers [] = []
closers (level ∷ levels) = Close ∷ closers levels

closers_written : (levels : List Level) → list_all is_written (closers levels) ≡ true
closers_written [] = refl
closers_written (level ∷ levels) = closers_written levels

record Completed (tokens : List Token) : Type 0 where
  tree : Expr
  spelled : expr_tokens tree ≡ tokens

complete : (levels : List Level) (e : Option Expr) (c : Conj) → Completed (stack levels ++ (before_conj e ++ conj_tokens c) ++ closers levels)
complete [] e c = record { tree = expr_of e c; spelled = expr_of-tokens e c ∙ sym (append-nil (before_conj e ++ conj_tokens c)) }
complete (level ∷ levels) e c = subst Completed (sym (group_tokens levels level e c (closers levels))) (complete levels level.alternatives (closed_conj level (Group (expr_of e c))))

begins_joint : (bangs : ℕ) (outer : List ℕ) (tokens : List Token) → BehindOperand bangs outer tokens → Begins tokens
begins_joint bangs outer tokens s =
    let all = complete s.levels s.alternatives s.last in
    record { rest = closers s.levels; written = closers_written s.levels; tree = all.tree; spelled = all.spelled ∙ ap (λ t. t ++ closers s.levels) (sym s.spelled) }

begins_shorter : (tokens : List Token) (token : Token) → is_written token ≡ true → Begins (tokens ++ token ∷ []) → Begins tokens
begins_shorter tokens token written b = record {
  rest = token ∷ b.rest;
  written = and_from (is_written token) (list_all is_written b.rest) written b.written;
  tree = b.tree;
  spelled = b.spelled ∙ append_assoc tokens (token ∷ []) b.rest;
}

begins_value : (bangs : ℕ) (outer : List ℕ) (tokens : List Token) → BehindComparison bangs outer tokens → Begins tokens
begins_value bangs outer tokens s =
    let literal : Literal = Word (97 ∷ []) in
    let longer : BehindOperand 0 outer (tokens ++ Value literal ∷ []) = subst (BehindOperand 0 outer) (sym (ap (λ t. t ++ Value literal ∷ []) s.spelled ∙ append_assoc s.front (Name s.name ∷ Compare s.by ∷ []) (Value literal ∷ []))) (operand bangs outer s.front (Test s.name s.by literal) s.before) in
    begins_shorter tokens (Value literal) refl (begins_joint 0 outer (tokens ++ Value literal ∷ []) longer)

begins_operator : (bangs : ℕ) (outer : List ℕ) (tokens : List Token) → BehindName bangs outer tokens → Begins tokens
begins_operator bangs outer tokens s =
    begins_shorter tokens (Compare comparison.Eq) refl (begins_value bangs outer (tokens ++ Compare comparison.Eq ∷ [])
    (record { front = s.front; before = s.before; name = s.name; by = comparison.Eq; spelled = ap (λ t. t ++ Compare comparison.Eq ∷ []) s.spelled ∙ append_assoc s.front (Name s.name ∷ []) (Compare comparison.Eq ∷ []) }))

begins_operand : (bangs : ℕ) (outer : List ℕ) (tokens : List Token) → InLevel bangs outer tokens → Begins tokens
begins_operand bangs outer tokens s =
    begins_shorter tokens (Name (97 ∷ [])) refl (begins_operator bangs outer (tokens ++ Name (97 ∷ []) ∷ []) (record { front = tokens; before = s; name = 97 ∷ []; spelled = refl }))

begins_at : (d : Due) (bangs : ℕ) (outer : List ℕ) (tokens : List Token) → StandsAt d bangs outer tokens → Begins tokens
begins_at due.Joint bangs outer tokens s = begins_joint bangs outer tokens s
begins_at due.Value bangs outer tokens s = begins_value bangs outer tokens s
begins_at due.Operator bangs outer tokens s = begins_operator bangs outer tokens s
begins_at due.Operand bangs outer tokens s = begins_operand bangs outer tokens s

-- what stands begins a filter
pub begins : (standing : Standing) (tokens : List Token) → Stands standing tokens → Begins tokens
begins standing tokens s = begins_at standing.due standing.opened.bangs standing.opened.outer tokens s.stands

-- behind an operand with nothing open the tokens are a filter
pub whole_at : (bangs : ℕ) (tokens : List Token) → StandsAt due.Joint bangs [] tokens → IsWhole tokens
whole_at bangs tokens s = by s.levels s.outer_is s.spelled
  where
    by : (levels : List Level) → bangs_of levels ≡ [] → tokens ≡ stack levels ++ (before_conj s.alternatives ++ conj_tokens s.last) → IsWhole tokens
    by [] h e = record { tree = expr_of s.alternatives s.last; spelled = expr_of-tokens s.alternatives s.last ∙ sym e }
    by (level ∷ levels) h e = absurd (cc)

pub stands_joint : (bangs : ℕ) (outer : List ℕ) (tokens : List Token) → Stands (standing_at due.Joint bangs outer) tokens → StandsAt due.Joint bangs outer tokens
stands_joint bangs outer tokens s = s.stands
