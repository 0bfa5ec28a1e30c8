use Rattle.record_text.proofs.RecordLemmas.{record_shows_its_row}
use Rattle.record_text.proofs.laws.record_shows_its_row.Goals as goal

pub returns : goal.returns
returns c = record_shows_its_row
