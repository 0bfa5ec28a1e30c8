use Rattle.kernel_pages.proofs.RowLemmas.{page_has_few_records}
use Rattle.kernel_pages.proofs.laws.page_has_few_records.Goals as goal

pub returns : goal.returns
returns c = page_has_few_records
