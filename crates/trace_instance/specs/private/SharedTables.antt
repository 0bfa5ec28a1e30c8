-- Which trigger's table a text of a hist trigger names, by what an instance keeps of its triggers.
use Rattle.std.specs.Prelude.{Bool, if◌then◌else◌, List, [], slice_set, Option}
use Rattle.std.specs.List.{find, flat_map}
use Rattle.trace_trigger.specs.HistSpecs.{SpecSeen}
use Rattle.tracer_specification.specs.HistTriggers.{is_name_of}
use Rattle.trace_instance.specs.EventLists.{all_hists}
use Rattle.trace_instance.specs.declared.attach.EventTriggers.{EventTriggers}
use Rattle.trace_instance.specs.declared.hists.AttachedHist.{AttachedHist}

-- whether a string names the table of a trigger
abbrev pub names_table_of : SpecSeen → AttachedHist → Bool
names_table_of spec attached = is_name_of spec.name attached.spec.name

-- the triggers that `>` or `>>` leaves, of all events
abbrev pub left_of : EventTriggers → Bool → List (List AttachedHist)
left_of triggers append = if append then all_hists triggers.all.now else slice_set (all_hists triggers.all.now) triggers.event []

-- the first trigger whose table a text names, of those of all events
abbrev pub named_in : SpecSeen → List (List AttachedHist) → Option AttachedHist
named_in spec all = find (names_table_of spec) (flat_map (λ (hists : List AttachedHist). hists) all)
