use Rattle.kernel_pages.proofs.PageLemmas.{row_fits}
use Rattle.kernel_pages.proofs.laws.row_fits.Goals as goal

pub returns : goal.returns
returns c = row_fits
