use Rattle.mount_replies.proofs.RecordsKept.{no_record_is_lost_or_told_twice}
use Rattle.mount_replies.proofs.WaitLaws.{closed_reads_take_nothing, interrupted_reads_take_nothing, taken_text_is_given_or_kept, telling_does_one}
use Rattle.mount_replies.proofs.laws.waiting_loses_nothing.Goals as goal

pub returns-clause-records : goal.returns-clause-records
returns-clause-records c = no_record_is_lost_or_told_twice

pub returns-clause-interrupted : goal.returns-clause-interrupted
returns-clause-interrupted c = interrupted_reads_take_nothing

pub returns-clause-closed : goal.returns-clause-closed
returns-clause-closed c = closed_reads_take_nothing

pub returns-clause-one : goal.returns-clause-one
returns-clause-one c = telling_does_one

pub returns-clause-text : goal.returns-clause-text
returns-clause-text c = taken_text_is_given_or_kept
