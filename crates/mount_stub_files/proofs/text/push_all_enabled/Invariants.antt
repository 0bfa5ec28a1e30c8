use Rattle.std.proofs.Common.{◌≡◌, ◌++◌, drop}
use Rattle.mount_stub_files.specs.private.Flags.{flagged_lines}
use Rattle.mount_stub_files.proofs.text.push_all_enabled.Given as goal

-- the lines so far, and those of the events that are left, are all
abbrev pub invariant-loop-event : goal.invariant-loop-event
invariant-loop-event l =
    l.out.items ++ flagged_lines l.instance.enabled (drop l.event-index l.events)
    ≡ l.initial.out.items ++ flagged_lines l.instance.enabled l.events
