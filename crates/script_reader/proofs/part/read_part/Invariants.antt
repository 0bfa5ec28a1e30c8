use Rattle.std.proofs.Common.{◌+◌, ◌≤◌}
use Rattle.std.specs.Option.{option_copied}
use Rattle.script_reader.specs.PartReads.{item_of, HasItsLine}
use Rattle.script_reader.specs.ScriptLines.{lines_left, bytes_left}
use Rattle.script_reader.proofs.PartReading.{Reads}
use Rattle.script_reader.proofs.part.read_part.Given as goal

abbrev pub invariant-loop-rest : goal.invariant-loop-rest
invariant-loop-rest l = record {
  reads : Reads l.number (lines_left (option_copied l.text)) (item_of l.part) l.lines (lines_left (option_copied l.rest));
  kept : HasItsLine l.number (lines_left (option_copied l.text)) l.part;
  room : l.lines + bytes_left (option_copied l.rest) ≤ bytes_left (option_copied l.text);
}

abbrev pub decreases-loop-rest : goal.decreases-loop-rest
decreases-loop-rest l = bytes_left (option_copied l.rest)
