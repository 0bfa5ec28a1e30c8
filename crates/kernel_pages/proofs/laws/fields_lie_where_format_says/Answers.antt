use Rattle.kernel_pages.proofs.LayoutLemmas.{line_has_offset, value_lies_at_offset, field_is_aligned}
use Rattle.kernel_pages.proofs.laws.fields_lie_where_format_says.Goals as goal

pub returns-clause-line : goal.returns-clause-line
returns-clause-line c = line_has_offset

pub returns-clause-bytes : goal.returns-clause-bytes
returns-clause-bytes c = value_lies_at_offset

pub returns-clause-aligned : goal.returns-clause-aligned
returns-clause-aligned c = field_is_aligned
