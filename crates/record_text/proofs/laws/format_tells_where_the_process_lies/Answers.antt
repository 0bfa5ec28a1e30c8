use Rattle.record_text.proofs.ProcessLemmas.{process_has_line, process_lies_at_offset}
use Rattle.record_text.proofs.laws.format_tells_where_the_process_lies.Goals as goal

pub returns-clause-line : goal.returns-clause-line
returns-clause-line c = process_has_line

pub returns-clause-bytes : goal.returns-clause-bytes
returns-clause-bytes c = process_lies_at_offset
