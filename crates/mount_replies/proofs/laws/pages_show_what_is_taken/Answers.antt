use Rattle.mount_replies.proofs.PageLaws.{page_cache_gets_pages, page_reads_take, pages_are_read_as_taken}
use Rattle.mount_replies.proofs.WaitingPages.{page_reads_give_some}
use Rattle.mount_replies.proofs.laws.pages_show_what_is_taken.Goals as goal

pub returns-clause-whole : goal.returns-clause-whole
returns-clause-whole c = page_cache_gets_pages

pub returns-clause-take : goal.returns-clause-take
returns-clause-take c = page_reads_take

pub returns-clause-read : goal.returns-clause-read
returns-clause-read c = pages_are_read_as_taken

pub returns-clause-gives : goal.returns-clause-gives
returns-clause-gives c = page_reads_give_some
