use Rattle.std.proofs.Common.{◌≡◌, ◌≤◌, ◌-◌, drop}
use Rattle.std.specs.Option.{option_copied}
use Rattle.script_reader.specs.ScriptLines.{lines_left}
use Rattle.script_reader.proofs.lines_from.LinesFrom.find.Given as goal

-- what is left are the lines behind those that were passed
abbrev pub invariant-loop : goal.invariant-loop
invariant-loop l = record {
  low : l.self.number ≤ l.counter;
  high : l.counter ≤ l.number;
  left : lines_left (option_copied l.rest) ≡ drop (l.counter - l.self.number) (lines_left (option_copied l.self.rest));
}
