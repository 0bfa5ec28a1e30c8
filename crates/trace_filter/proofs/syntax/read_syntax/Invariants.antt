use Rattle.std.proofs.Common.{◌≡◌, ◌-◌, ◌≤◌, ℕ, false, length, drop}
use Rattle.trace_filter.specs.Tokens.{spots_from}
use Rattle.trace_filter.specs.Grammar.{open_count}
use Rattle.trace_filter.specs.FilterCauses.{cause_from, cause_at}
use Rattle.trace_filter.specs.Syntax.{start, reading}
use Rattle.trace_filter.proofs.syntax.read_syntax.Given as goal

-- what is left of the text comes to what the whole does, not too much is open, and the cause at a later offset is that after the tokens that
-- were taken
abbrev pub invariant-loop-spot : goal.invariant-loop-spot
invariant-loop-spot l = record {
  within : l.from ≤ length l.text;
  shallow : open_count l.reader.opened ≤ 16;
  same : reading l.reader (spots_from l.value_due 0 l.from (drop l.from l.text)) l.len ≡ reading start (spots_from false 0 0 l.text) l.len;
  cause : (at : ℕ) → l.from ≤ at → cause_from l.cause (spots_from l.value_due 0 l.from (drop l.from l.text)) at ≡ cause_at (spots_from false 0 0 l.text) at;
}

abbrev pub decreases-loop-spot : goal.decreases-loop-spot
decreases-loop-spot l = length l.text - l.from
