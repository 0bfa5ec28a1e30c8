use Rattle.mount_service.proofs.ReaderLemmas.{exchanges_take_for_one, no_record_is_taken_twice, taken_is_of_one_read}
use Rattle.mount_service.proofs.laws.no_record_goes_to_two_readers.Goals as goal

pub returns-clause-once : goal.returns-clause-once
returns-clause-once c = no_record_is_taken_twice c.nothing_is_read_twice.ensures.once c.pasts_are_done.ensures

pub returns-clause-taken : goal.returns-clause-taken
returns-clause-taken c = taken_is_of_one_read c.pasts_are_done.ensures

pub returns-clause-one : goal.returns-clause-one
returns-clause-one c = exchanges_take_for_one
