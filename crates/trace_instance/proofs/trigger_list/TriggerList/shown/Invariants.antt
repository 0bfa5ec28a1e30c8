use Rattle.std.proofs.Common.{◌≡◌, map, take}
use Rattle.trace_text.specs.ShownTriggers.{shown_trigger}
use Rattle.trace_instance.specs.private.Commands.{shown_of}
use Rattle.trace_instance.proofs.trigger_list.TriggerList.shown.Given as goal

abbrev pub invariant-loop-trigger : goal.invariant-loop-trigger
invariant-loop-trigger l = map shown_trigger l.shown.items ≡ map (shown_of l.fn.tables) (take l.trigger-index l.trigger-items)
