-- One more token opens one more at most.
use Rattle.std.proofs.Common.{◌≡◌, ℕ, ◌+◌, ◌≤◌, Bool, true, false, List, [], ◌∷◌, length, ap, arith}
use Rattle.std.specs.List.{sum}
use Rattle.trace_filter.specs.Tokens.{Token, Open, Close, Bang, AndAnd, OrOr, Compare, Name, Value, Illegible}
use Rattle.trace_filter.specs.Grammar.{behind, open_count}
use Rattle.trace_filter.specs.Syntax.{Standing, step, Takes}
use Rattle.trace_filter.proofs.Sums.{sum-cons}
use Rattle.trace_filter.proofs.Verdicts.{step_opened}

behind_count : (bangs : ℕ) (outer : List ℕ) (token : Token) → open_count (behind (record { bangs = bangs; outer = outer }) token) ≤ bangs + length outer + sum outer + 1
behind_count bangs outer Open = omega (arith, sum-cons bangs outer)
behind_count bangs [] Close = omega arith
behind_count bangs (b ∷ outer) Close = omega (arith, sum-cons b outer)
behind_count bangs outer Bang = omega arith
behind_count bangs outer AndAnd = omega arith
behind_count bangs outer OrOr = omega arith
behind_count bangs outer (Compare by) = omega arith
behind_count bangs outer (Name name) = omega arith
behind_count bangs outer (Value literal) = omega arith
behind_count bangs outer Illegible = omega arith

pub one_deeper : (standing next : Standing) (token : Token) (fits : Bool) → Takes (step standing token) fits next → fits ≡ true → open_count standing.opened ≤ 16 → open_count next.opened ≤ 17
one_deeper standing next token true takes e few =
    omega (arith, ap open_count (step_opened standing next token takes), behind_count standing.opened.bangs standing.opened.outer token, few)
one_deeper standing next token false takes e few = absurd (cc)
