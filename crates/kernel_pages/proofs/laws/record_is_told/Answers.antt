use Rattle.kernel_pages.proofs.RowLemmas.{record_is_told}
use Rattle.kernel_pages.proofs.laws.record_is_told.Goals as goal

pub returns : goal.returns
returns c = record_is_told
