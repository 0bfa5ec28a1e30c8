use Rattle.trace_trigger.proofs.TextLaws.{nothing_is_blanks, attach_is_written, remove_is_written, hist_is_read, remove_hist_is_read, hist_fault_is_told, bad_is_unwritten, filter_fault_is_moved}
use Rattle.trace_trigger.proofs.TextCauses.{bad_text_has_cause}
use Rattle.trace_trigger.proofs.laws.trigger_texts_are_as_written.Goals as goal

pub returns-clause-nothing : goal.returns-clause-nothing
returns-clause-nothing c = λ definition text. nothing_is_blanks definition text

pub returns-clause-attach : goal.returns-clause-attach
returns-clause-attach c = λ definition text trigger. attach_is_written definition text trigger

pub returns-clause-remove : goal.returns-clause-remove
returns-clause-remove c = λ definition text. remove_is_written definition text

pub returns-clause-bad : goal.returns-clause-bad
returns-clause-bad c = λ definition text. bad_is_unwritten definition text

pub returns-clause-cause : goal.returns-clause-cause
returns-clause-cause c = λ definition text why. bad_text_has_cause definition text why

pub returns-clause-filter : goal.returns-clause-filter
returns-clause-filter c = λ definition text removes count condition fault. filter_fault_is_moved definition text removes count condition fault

pub returns-clause-hist : goal.returns-clause-hist
returns-clause-hist c = λ definition text spec. hist_is_read definition text spec

pub returns-clause-remove_hist : goal.returns-clause-remove_hist
returns-clause-remove_hist c = λ definition text spec. remove_hist_is_read definition text spec

pub returns-clause-hist_fault : goal.returns-clause-hist_fault
returns-clause-hist_fault c = λ definition text fault. hist_fault_is_told definition text fault
