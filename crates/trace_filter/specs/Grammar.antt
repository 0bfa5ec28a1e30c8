-- The grammar of filters: trees, how they are spelled, and where other tokens are wrong.
-- A filter is one conjunction or several, with `||` between each two; a conjunction is one unary or several, with `&&` between each two. A unary
-- is a test (a name, a comparison and a value), a filter in parentheses, or a `!` with a unary behind it.
use Rattle.std.specs.Prelude.{◌≡◌, ◌⊎◌, ℕ, ◌+◌, ◌<◌, ◌≤◌, Bool, true, false, ◌&&◌, ◌||◌, nat_lt, max, IsTrue, List, [], ◌∷◌, ◌++◌, length, sum}
use Rattle.std.specs.List.{list_all}
use Rattle.trace_lex.specs.Names.{is_name}
use Rattle.trace_filter.specs.declared.token.Comparison.{Comparison}
use Rattle.trace_filter.specs.declared.syntax.Verdict.{Verdict}
use Rattle.trace_filter.specs.declared.syntax.Verdict.TheVariants.{Fine, TooDeep, WrongAt}
use Rattle.trace_lex.specs.Prefixes.{is_not}
use Rattle.trace_filter.specs.Tokens.{Literal, Word, Quoted, Token, Open, Close, Bang, AndAnd, OrOr, Compare, Name, Value, Illegible, is_word_byte, Spot, tokens_of}

mutual
  -- some conjunctions with `||` between them
  pub data Expr : Type 0 where
    AllOf : Conj → Expr
    Or : Expr → Conj → Expr

  -- some unaries with `&&` between them
  pub data Conj : Type 0 where
    Only : Unary → Conj
    And : Conj → Unary → Conj

  pub data Unary : Type 0 where
    Not : Unary → Unary
    Group : Expr → Unary
    Test : List ℕ → Comparison → Literal → Unary

abbrev mutual
  pub expr_tokens : Expr → List Token
  expr_tokens (AllOf c) = conj_tokens c
  expr_tokens (Or e c) = expr_tokens e ++ OrOr ∷ conj_tokens c

  pub conj_tokens : Conj → List Token
  conj_tokens (Only u) = unary_tokens u
  conj_tokens (And c u) = conj_tokens c ++ AndAnd ∷ unary_tokens u

  pub unary_tokens : Unary → List Token
  unary_tokens (Not u) = Bang ∷ unary_tokens u
  unary_tokens (Group e) = Open ∷ (expr_tokens e ++ Close ∷ [])
  unary_tokens (Test name comparison literal) = Name name ∷ Compare comparison ∷ Value literal ∷ []

-- tokens that some text has: names are names, bare words have a byte or more, and what is quoted lacks `"` (34) or `'` (39)
abbrev pub is_word : List ℕ → Bool
is_word bytes = nat_lt 0 (length bytes) && list_all is_word_byte bytes

abbrev pub is_written : Token → Bool
is_written Open = true
is_written Close = true
is_written Bang = true
is_written AndAnd = true
is_written OrOr = true
is_written (Compare comparison) = true
is_written (Name bytes) = is_name bytes
is_written (Value (Word bytes)) = is_word bytes
is_written (Value (Quoted bytes)) = list_all (is_not 34) bytes || list_all (is_not 39) bytes
is_written Illegible = false

-- the tokens spell the filter
abbrev pub Spells : List Token → Expr → Type 0
Spells tokens tree = expr_tokens tree ≡ tokens

-- the tokens are a filter
pub record IsWhole (tokens : List Token) : Type 0 where
  pub tree : Expr
  pub spelled : Spells tokens tree

-- some filter begins with the tokens
pub record Begins (tokens : List Token) : Type 0 where
  pub rest : List Token
  pub written : IsTrue (list_all is_written rest)
  pub tree : Expr
  pub spelled : Spells (tokens ++ rest) tree

-- ---- depth

-- what is open at an offset: the `!` inside the innermost `(`, and for each open `(` the `!` before it, innermost first
pub record Opened : Type 0 where
  pub bangs : ℕ
  pub outer : List ℕ

-- the `!` before the innermost `(` end with it
abbrev pub outside : List ℕ → List ℕ
outside [] = []
outside (bangs ∷ outer) = outer

-- what is open behind one more token; a `!` is open until its operand ends
abbrev pub behind : Opened → Token → Opened
behind opened Open = record { bangs = 0; outer = opened.bangs ∷ opened.outer }
behind opened Close = record { bangs = 0; outer = outside opened.outer }
behind opened Bang = record { bangs = opened.bangs + 1; outer = opened.outer }
behind opened AndAnd = opened
behind opened OrOr = opened
behind opened (Compare comparison) = opened
behind opened (Name bytes) = opened
behind opened (Value literal) = record { bangs = 0; outer = opened.outer }
behind opened Illegible = opened

-- how many `!` and `(` are open
abbrev pub open_count : Opened → ℕ
open_count opened = opened.bangs + length opened.outer + sum opened.outer

abbrev pub nothing_open : Opened
nothing_open = record { bangs = 0; outer = [] }

-- the most that are open at once, from an offset on
abbrev pub deepest : Opened → List Token → ℕ
deepest opened [] = open_count opened
deepest opened (token ∷ tokens) = max (open_count opened) (deepest (behind opened token) tokens)

abbrev pub depth_of : List Token → ℕ
depth_of tokens = deepest nothing_open tokens

-- the depth of a tree: how many `!` and `(` are around the test that has the most
abbrev mutual
  pub depth : Expr → ℕ
  depth (AllOf c) = conj_depth c
  depth (Or e c) = max (depth e) (conj_depth c)

  pub conj_depth : Conj → ℕ
  conj_depth (Only u) = unary_depth u
  conj_depth (And c u) = max (conj_depth c) (unary_depth u)

  pub unary_depth : Unary → ℕ
  unary_depth (Not u) = unary_depth u + 1
  unary_depth (Group e) = depth e + 1
  unary_depth (Test name comparison literal) = 0

-- ---- what a text comes to

-- the tokens before the one at the offset begin a filter and are nested 16 deep at most; with it they begin none
pub record IsMisplaced (spots : List Spot) (offset : ℕ) : Type 0 where
  pub front : List Spot
  pub wrong : Spot
  pub back : List Spot
  pub cut : spots ≡ front ++ wrong ∷ back
  pub at : wrong.at ≡ offset
  pub begins : Begins (tokens_of front)
  pub wrong_there : Begins (tokens_of front ++ wrong.token ∷ []) → ⊥
  pub shallow : depth_of (tokens_of front) ≤ 16

-- the tokens begin a filter, are none, and are nested 16 deep at most
pub record EndsEarly (spots : List Spot) : Type 0 where
  pub begins : Begins (tokens_of spots)
  pub unfinished : IsWhole (tokens_of spots) → ⊥
  pub shallow : depth_of (tokens_of spots) ≤ 16

-- the tokens up to some offset begin a filter and are nested too deep
pub record IsTooDeep (spots : List Spot) : Type 0 where
  pub front : List Spot
  pub back : List Spot
  pub cut : spots ≡ front ++ back
  pub begins : Begins (tokens_of front)
  pub deep : 16 < depth_of (tokens_of front)

-- the tokens are a filter and are nested 16 deep at most
pub record IsFine (spots : List Spot) : Type 0 where
  pub whole : IsWhole (tokens_of spots)
  pub shallow : depth_of (tokens_of spots) ≤ 16

-- what tokens come to, in a text of the length `len`
abbrev pub IsVerdict : List Spot → ℕ → Verdict → Type 0
IsVerdict spots len Fine = IsFine spots
IsVerdict spots len TooDeep = IsTooDeep spots
IsVerdict spots len (WrongAt at) = IsMisplaced spots at ⊎ (EndsEarly spots × (at ≡ len))
