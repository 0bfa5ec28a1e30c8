use Rattle.std.proofs.Common.{length, ap, ◌∙◌}
use Rattle.trace_filter.specs.Globs.{parts_of}
use Rattle.trace_filter.specs.Marks.{advance_all, mark_at}
use Rattle.trace_filter.proofs.RowLemmas.{first_row_is}
use Rattle.trace_filter.proofs.glob.matches.Goals as goal

pub returns : goal.returns
returns c = c.match_parts.ensures ∙ ap (λ r. mark_at (length c.args.text.now) (advance_all (parts_of c.args.pattern.now) r c.args.text.now)) (first_row_is c.args.text.now 256 c.requires)
