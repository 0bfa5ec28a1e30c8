use Rattle.kernel_pages.proofs.PageLemmas.{page_is_read}
use Rattle.kernel_pages.proofs.laws.page_is_read.Goals as goal

pub returns : goal.returns
returns c = page_is_read
