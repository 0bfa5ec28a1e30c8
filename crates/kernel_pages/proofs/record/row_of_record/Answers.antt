use Rattle.std.proofs.Common.{rules, ◌∙◌}
use Rattle.kernel_pages.specs.Rows.{data_of}
use Rattle.kernel_pages.proofs.LayoutLemmas.{is_page_row}
use Rattle.kernel_pages.proofs.record.row_of_record.Goals as goal

pub returns-clause-is_row : goal.returns-clause-is_row
unfolding data_of
returns-clause-is_row c = is_page_row _ _ _ _ (c.from.ensures ∙ c.in_ok-time.ensures.data) (search rules) (search rules)
