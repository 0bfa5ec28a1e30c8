use Rattle.mount_replies.proofs.PagesKept.{cached_reads_keep_nothing, no_page_is_lost_or_told_twice, pages_are_of_one_read}
use Rattle.mount_replies.proofs.laws.pages_go_to_one_reader.Goals as goal

pub returns-clause-records : goal.returns-clause-records
returns-clause-records c = no_page_is_lost_or_told_twice

pub returns-clause-cached : goal.returns-clause-cached
returns-clause-cached c = cached_reads_keep_nothing

pub returns-clause-taken : goal.returns-clause-taken
returns-clause-taken c = pages_are_of_one_read
