use Rattle.std.proofs.Common.{◌∙◌}
use Rattle.std.proofs.lemmas.Result.{on_ok_weaker}
use Rattle.command_log.specs.EntryEncoding.{other_bytes}
use Rattle.command_log.proofs.WrittenEntries.{six_writes}
use Rattle.command_log.proofs.chunk.Chunk.write_other.Goals as goal

pub returns-clause-ahead : goal.returns-clause-ahead
unfolding other_bytes
returns-clause-ahead c =
    on_ok_weaker c.write_text-2.result
    (six_writes _ _ _ _ _ _ _ _ _ _ _ _ _ (c.make_room.ensures.ahead ∙ c.requires) c.in_ok-write_number_of_eight.ensures.ahead c.in_ok-write_number_of_four.ensures.ahead
    c.in_ok-write_byte.ensures.ahead c.in_ok-write_number_of_eight-2.ensures.ahead c.in_ok-write_text.ensures.ahead)
    c.write_text-2.ensures.ahead
