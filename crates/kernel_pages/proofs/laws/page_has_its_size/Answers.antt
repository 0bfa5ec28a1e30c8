use Rattle.kernel_pages.proofs.PageLemmas.{page_has_its_size}
use Rattle.kernel_pages.proofs.laws.page_has_its_size.Goals as goal

pub returns : goal.returns
returns c = page_has_its_size
