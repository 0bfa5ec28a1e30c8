use Rattle.std.proofs.Common.{arith}
use Rattle.std.proofs.lemmas.List.{drop_all}
use Rattle.record_text.proofs.StatsLemmas.{lines_are_text}
use Rattle.record_text.proofs.stats.put_lines.Goals as goal

pub returns-clause-text : goal.returns-clause-text
returns-clause-text c =
    lines_are_text c.args.stats c.args.now _ _ _ _ _ _ _ _ _ (drop_all 263 c.args.bytes.now (omega (arith, c.requires)))
    c.put_line_before-at.ensures.line c.put_line_before-at-2.ensures.line c.put_line_before-at-3.ensures.line c.put_line_before-at-4.ensures.line
    c.put_line_before-at-5.ensures.line c.put_line_before-at-6.ensures.line c.put_line_before-at-7.ensures.line c.put_line_before.ensures.line
