use Rattle.std.proofs.Common.{◌≡◌, ◌++◌, drop}
use Rattle.std.specs.List.{flat_map}
use Rattle.file_list.specs.Files.{lines_of_event}
use Rattle.file_list.proofs.listing.push_each_event.Given as goal

-- the lines so far, and those of the events that are left, are all
abbrev pub invariant-loop-event : goal.invariant-loop-event
invariant-loop-event l =
    l.out.items ++ flat_map (lines_of_event l.instance) (drop l.event-index l.events)
    ≡ l.initial.out.items ++ flat_map (lines_of_event l.instance) l.events
