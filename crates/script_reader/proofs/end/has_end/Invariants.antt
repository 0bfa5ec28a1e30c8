use Rattle.std.proofs.Common.{◌≡◌}
use Rattle.std.specs.List.{list_any}
use Rattle.std.specs.Option.{option_copied}
use Rattle.script_reader.specs.Items.{is_end}
use Rattle.script_reader.specs.ScriptLines.{lines_left, bytes_left}
use Rattle.script_reader.proofs.end.has_end.Given as goal

-- no line that was passed is an `end`
abbrev pub invariant-loop-rest : goal.invariant-loop-rest
invariant-loop-rest l = record {
  passed : list_any is_end (lines_left (option_copied l.text)) ≡ list_any is_end (lines_left (option_copied l.rest));
}

abbrev pub decreases-loop-rest : goal.decreases-loop-rest
decreases-loop-rest l = bytes_left (option_copied l.rest)
