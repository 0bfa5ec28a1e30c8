use Rattle.kernel_pages.proofs.LayoutLemmas.{event_fits_page}
use Rattle.kernel_pages.proofs.laws.event_fits_page.Goals as goal

pub returns : goal.returns
returns c = event_fits_page
