use Rattle.mount_replies.proofs.ServedErrors.{log_reads_show_the_last_eight}
use Rattle.mount_replies.proofs.ShownLemmas.{reads_show_the_past, stats_show_the_past}
use Rattle.mount_replies.proofs.ToolReads.{later_reads_go_on, reads_end_with_the_text, tool_reads_show_the_past}
use Rattle.mount_replies.proofs.laws.reads_show_the_past.Goals as goal

pub returns-clause-files : goal.returns-clause-files
returns-clause-files c = reads_show_the_past

pub returns-clause-stats : goal.returns-clause-stats
returns-clause-stats c = stats_show_the_past

pub returns-clause-tools : goal.returns-clause-tools
returns-clause-tools c = tool_reads_show_the_past

pub returns-clause-log : goal.returns-clause-log
returns-clause-log c = log_reads_show_the_last_eight

pub returns-clause-later : goal.returns-clause-later
returns-clause-later c = later_reads_go_on

pub returns-clause-ended : goal.returns-clause-ended
returns-clause-ended c = reads_end_with_the_text
