-- Filters read token by token: what a text comes to. That this is what `Grammar` says is the law `filters_are_as_written`.
use Rattle.std.specs.Prelude.{◌≡◌, ℕ, Bool, true, false, nat_lt, if◌then◌else◌, List, [], ◌∷◌, Option, None, Some, option_map}
use Rattle.trace_filter.specs.declared.syntax.Due.{Due}
use Rattle.trace_filter.specs.declared.syntax.Due.TheVariants as due
use Rattle.trace_filter.specs.Tokens.{Token, Open, Close, Bang, AndAnd, OrOr, Compare, Name, Value, Illegible, Spot}
use Rattle.trace_filter.specs.declared.syntax.Verdict.{Verdict}
use Rattle.trace_filter.specs.declared.syntax.Verdict.TheVariants.{Fine, TooDeep, WrongAt}
use Rattle.trace_filter.specs.Grammar.{Opened, behind, open_count, nothing_open}

-- what may stand next, and what is open
pub record Standing : Type 0 where
  pub due : Due
  pub opened : Opened

abbrev pub is_inside : List ℕ → Bool
is_inside [] = false
is_inside (bangs ∷ outer) = true

-- what is due behind a token, if it may stand there
abbrev pub next_due : Due → List ℕ → Token → Option Due
next_due due.Operand outer Open = Some due.Operand
next_due due.Operand outer Bang = Some due.Operand
next_due due.Operand outer (Name bytes) = Some due.Operator
next_due due.Operand outer Close = None
next_due due.Operand outer AndAnd = None
next_due due.Operand outer OrOr = None
next_due due.Operand outer (Compare comparison) = None
next_due due.Operand outer (Value literal) = None
next_due due.Operand outer Illegible = None
next_due due.Operator outer (Compare comparison) = Some due.Value
next_due due.Operator outer Open = None
next_due due.Operator outer Close = None
next_due due.Operator outer Bang = None
next_due due.Operator outer AndAnd = None
next_due due.Operator outer OrOr = None
next_due due.Operator outer (Name bytes) = None
next_due due.Operator outer (Value literal) = None
next_due due.Operator outer Illegible = None
next_due due.Value outer (Value literal) = Some due.Joint
next_due due.Value outer Open = None
next_due due.Value outer Close = None
next_due due.Value outer Bang = None
next_due due.Value outer AndAnd = None
next_due due.Value outer OrOr = None
next_due due.Value outer (Compare comparison) = None
next_due due.Value outer (Name bytes) = None
next_due due.Value outer Illegible = None
next_due due.Joint outer AndAnd = Some due.Operand
next_due due.Joint outer OrOr = Some due.Operand
next_due due.Joint outer Close = if is_inside outer then Some due.Joint else None
next_due due.Joint outer Open = None
next_due due.Joint outer Bang = None
next_due due.Joint outer (Compare comparison) = None
next_due due.Joint outer (Name bytes) = None
next_due due.Joint outer (Value literal) = None
next_due due.Joint outer Illegible = None

abbrev pub moved : Opened → Token → Due → Standing
moved opened token next = record { due = next; opened = behind opened token }

-- one more token; None where it cannot stand there
unfoldable pub step : Standing → Token → Option Standing
step standing token = option_map (moved standing.opened token) (next_due standing.due standing.opened.outer token)

-- a filter may end behind a test, with nothing open
abbrev pub may_end : Due → List ℕ → Bool
may_end due.Operand outer = false
may_end due.Operator outer = false
may_end due.Value outer = false
may_end due.Joint [] = true
may_end due.Joint (bangs ∷ outer) = false

abbrev pub start : Standing
start = record { due = due.Operand; opened = nothing_open }

abbrev pub ended : Standing → ℕ → Verdict
ended standing len = if may_end standing.due standing.opened.outer then Fine else WrongAt len

-- a verdict at a token: it cannot stand there; or too much is open behind it; or that of the tokens behind it
abbrev pub going_on : Option Standing → ℕ → (Standing → Verdict) → Verdict
going_on None at rest = WrongAt at
going_on (Some next) at rest = if nat_lt 16 (open_count next.opened) then TooDeep else rest next

abbrev pub reading : Standing → List Spot → ℕ → Verdict
reading standing [] len = ended standing len
reading standing (spot ∷ spots) len = going_on (step standing spot.token) spot.at (λ next. reading next spots len)

-- the reader takes a token exactly where it can stand, and then stands behind it
abbrev pub Takes : Option Standing → Bool → Standing → Type 0
Takes next true standing = next ≡ Some standing
Takes next false standing = next ≡ None
