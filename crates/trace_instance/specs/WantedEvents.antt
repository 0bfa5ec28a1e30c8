-- Whether an instance wants the emissions of an event, whatever their rows are: it records them, or a trigger may act on them (events.rst, "Event
-- triggers"; histogram.rst, "hist triggers"). Filters are not asked, those of triggers neither.
use Rattle.std.specs.Prelude.{ℕ, Bool, false, not, ◌&&◌, ◌||◌, List, [], slice_index_or, Option, Some, None}
use Rattle.std.specs.List.{list_any}
use Rattle.tracer_specification.specs.Triggers.{is_left}
use Rattle.trace_instance.specs.Instances.{InstanceSeen}
use Rattle.trace_instance.specs.KeptHists.{KeptTable, kept_at}
use Rattle.trace_instance.specs.declared.hists.AttachedHist.{AttachedHist}
use Rattle.trace_instance.specs.declared.tables.Table.{Table}
use Rattle.trace_instance.specs.declared.trigger.AttachedSnapshot.{AttachedSnapshot}

-- whether a table, if there is one, counts rows: it is not paused
abbrev pub is_counting : Option KeptTable → Bool
is_counting None = false
is_counting (Some kept) = not kept.paused

-- whether a hist trigger is active: its table counts rows
abbrev pub is_active : List Table → AttachedHist → Bool
is_active tables a = is_counting (kept_at a.table tables)

-- whether a snapshot trigger, if there is one, has times left or no limit
abbrev pub has_times_left : Option AttachedSnapshot → Bool
has_times_left None = false
has_times_left (Some t) = is_left t.left

-- whether a trigger of an event may act
abbrev pub may_act : Option AttachedSnapshot → List AttachedHist → List Table → Bool
may_act snapshot hists tables = list_any (is_active tables) hists || has_times_left snapshot

-- Whether an instance wants the emissions of the event at an index: it is recording and the event is enabled, or a trigger of the event may act. Of an
-- event that is not there it wants none.
abbrev pub wants_event : InstanceSeen → ℕ → Bool
wants_event i event =
    (i.tracing && slice_index_or i.enabled event false) || may_act (slice_index_or i.triggers event None) (slice_index_or i.hists event []) i.tables
