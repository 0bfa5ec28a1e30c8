use Rattle.trace_format.proofs.Payloads.{payload_is_read, one_row}
use Rattle.trace_format.proofs.laws.payloads_are_read_as_their_rows.Goals as goal

pub returns-clause-row : goal.returns-clause-row
returns-clause-row c = payload_is_read

pub returns-clause-unique : goal.returns-clause-unique
returns-clause-unique c = one_row
