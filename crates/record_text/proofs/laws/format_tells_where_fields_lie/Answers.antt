use Rattle.record_text.proofs.LayoutLemmas.{line_has_offset, value_lies_at_offset, value_has_its_size}
use Rattle.record_text.proofs.laws.format_tells_where_fields_lie.Goals as goal

pub returns-clause-line : goal.returns-clause-line
returns-clause-line c = line_has_offset

pub returns-clause-bytes : goal.returns-clause-bytes
returns-clause-bytes c = value_lies_at_offset

pub returns-clause-size : goal.returns-clause-size
returns-clause-size c = value_has_its_size
