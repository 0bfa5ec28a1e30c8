use Rattle.tracer_specification.proofs.ShownRecords.{records_show_their_rows}
use Rattle.tracer_specification.proofs.laws.records_show_their_rows.Goals as goal

pub returns : goal.returns
returns c = records_show_their_rows
