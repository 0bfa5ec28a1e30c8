use Rattle.mount_replies.proofs.KeptLines.{open_files_keep_lines}
use Rattle.mount_replies.proofs.NotedWrites.{noted_writes_were_refused}
use Rattle.mount_replies.proofs.RefusedNoted.{refused_writes_are_noted}
use Rattle.mount_replies.proofs.ServedErrors.{last_eight_are_kept}
use Rattle.mount_replies.proofs.laws.logs_have_the_last_eight.Goals as goal

pub returns-clause-kept : goal.returns-clause-kept
returns-clause-kept c = last_eight_are_kept

pub returns-clause-noted : goal.returns-clause-noted
returns-clause-noted c = noted_writes_were_refused

pub returns-clause-lines : goal.returns-clause-lines
returns-clause-lines c = open_files_keep_lines

pub returns-clause-all : goal.returns-clause-all
returns-clause-all c = refused_writes_are_noted
