use Rattle.std.proofs.Common.{◌≡◌, ◌++◌, map}
use Rattle.script_reader.specs.PartReads.{commands_in}
use Rattle.script_reader.specs.declared.part.Numbered.{Numbered}
use Rattle.trace_session.specs.PartTexts.{asked_command, items_in}
use Rattle.trace_workers.specs.BlockRuns.{commands_of}
use Rattle.trace_session.proofs.part_split.split_threads.Given as goal

-- what was split and what is left to split are all
abbrev pub invariant-loop-thread : goal.invariant-loop-thread
invariant-loop-thread l = record {
  numbers : items_in l.numbers.items ++ map (map (λ (asked : Numbered). asked.number)) (commands_in l.thread-iterator.rest.items)
      ≡ map (map (λ (asked : Numbered). asked.number)) (commands_in l.fn.threads.items);
  lines : commands_of asked_command l.lines.items ++ map (map (λ (asked : Numbered). asked.command)) (commands_in l.thread-iterator.rest.items)
      ≡ map (map (λ (asked : Numbered). asked.command)) (commands_in l.fn.threads.items);
}
