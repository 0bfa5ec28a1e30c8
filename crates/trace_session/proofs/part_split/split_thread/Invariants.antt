use Rattle.std.proofs.Common.{◌≡◌, ◌++◌, map}
use Rattle.script_reader.specs.PartReads.{asked_of}
use Rattle.script_reader.specs.declared.part.Numbered.{Numbered}
use Rattle.trace_session.specs.PartTexts.{asked_command}
use Rattle.trace_session.proofs.part_split.split_thread.Given as goal

-- what was split and what is left to split are all
abbrev pub invariant-loop-number : goal.invariant-loop-number
invariant-loop-number l = record {
  numbers : l.numbers.items ++ map (λ (asked : Numbered). asked.number) (map asked_of l.number-iterator.rest.items) ≡ map (λ (asked : Numbered). asked.number) (map asked_of l.fn.thread.items);
  lines : map asked_command l.lines.items ++ map (λ (asked : Numbered). asked.command) (map asked_of l.number-iterator.rest.items) ≡ map (λ (asked : Numbered). asked.command) (map asked_of l.fn.thread.items);
}
