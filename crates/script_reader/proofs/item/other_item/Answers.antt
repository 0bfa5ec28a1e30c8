use Rattle.std.proofs.Common.{sym}
use Rattle.script_reader.proofs.ItemReading.{is_parallel}
use Rattle.script_reader.proofs.item.other_item.Goals as goal

pub part_or_line-requires-clause-says : goal.part_or_line-requires-clause-says
part_or_line-requires-clause-says c = is_parallel _ _ c.in_ok-said.ensures.read (sym c.if-begins.ensures)
