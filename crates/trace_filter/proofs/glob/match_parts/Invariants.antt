use Rattle.std.proofs.Common.{◌≡◌, ℕ, false, length, drop}
use Rattle.trace_filter.specs.Globs.{parts_from, class_piece, itself}
use Rattle.trace_filter.specs.Marks.{advance_all}
use Rattle.trace_filter.proofs.glob.match_parts.Given as goal

abbrev pub invariant-parts : goal.invariant-parts
invariant-parts l = record {
  same : advance_all (parts_from 0 l.rest) l.row l.text ≡ advance_all (parts_from 0 l.pattern) l.fn.row l.text;
  closed : l.may_close ≡ false → (n : ℕ) → class_piece (drop n l.rest) ≡ itself 91;
}

abbrev pub decreases-parts : goal.decreases-parts
decreases-parts l = length l.rest
