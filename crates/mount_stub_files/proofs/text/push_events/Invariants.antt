use Rattle.std.proofs.Common.{◌≡◌, ◌++◌, drop}
use Rattle.mount_stub_files.specs.ToolTexts as texts
use Rattle.mount_stub_files.proofs.text.push_events.Given as goal

-- the lines so far, and those of the events that are left, are all
abbrev pub invariant-loop-event : goal.invariant-loop-event
invariant-loop-event l = l.out.items ++ texts.event_lines (drop l.event-index l.events) ≡ l.initial.out.items ++ texts.event_lines l.events
