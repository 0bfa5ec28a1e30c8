use Rattle.record_text.proofs.RecordLemmas.{record_has_its_size}
use Rattle.record_text.proofs.laws.record_has_its_size.Goals as goal

pub returns : goal.returns
returns c = record_has_its_size
