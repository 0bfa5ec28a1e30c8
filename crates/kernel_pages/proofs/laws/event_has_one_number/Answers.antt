use Rattle.kernel_pages.proofs.LayoutLemmas.{id_is_in_format, common_fields_are_read}
use Rattle.kernel_pages.proofs.laws.event_has_one_number.Goals as goal

pub returns-clause-format : goal.returns-clause-format
returns-clause-format c = id_is_in_format

pub returns-clause-common : goal.returns-clause-common
returns-clause-common c = common_fields_are_read
