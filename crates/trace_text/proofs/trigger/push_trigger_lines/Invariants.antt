use Rattle.std.proofs.Common.{◌≡◌, ◌++◌, map, drop}
use Rattle.std.specs.List.{flat_map}
use Rattle.trace_text.specs.ShownTriggers.{shown_trigger}
use Rattle.trace_text.specs.TriggerText.{trigger_line}
use Rattle.trace_text.proofs.trigger.push_trigger_lines.Given as goal

-- what was written and what is left to write are all
abbrev pub invariant-loop-trigger : goal.invariant-loop-trigger
invariant-loop-trigger l =
    l.out.items ++ flat_map trigger_line (map shown_trigger (drop l.trigger-index l.shown))
    ≡ l.initial.out.items ++ flat_map trigger_line (map shown_trigger l.shown)
