-- The lines of the events that an instance keeps as enabled.
use Rattle.std.specs.Prelude.{ℕ, Bool, false, if◌then◌else◌, List, [], slice_index_or}
use Rattle.std.specs.List.{flat_map}
use Rattle.mount_tree.specs.declared.scene.Event.{Event}
use Rattle.mount_stub_files.specs.ToolTexts.{event_line}

abbrev pub flagged_line : List Bool → Event → List ℕ
flagged_line flags event = if slice_index_or flags event.index false then event_line event.name else []

abbrev pub flagged_lines : List Bool → List Event → List ℕ
flagged_lines flags events = flat_map (flagged_line flags) events
