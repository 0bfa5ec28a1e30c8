-- The list over its events that an instance keeps, and the lists over them that contracts see.
use Rattle.std.specs.Prelude.{Bool, List, [], ◌∷◌, Option, map}
use Rattle.trace_filter.specs.Filters.{Parsed}
use Rattle.trace_instance.specs.Changes.{changed_filter}
use Rattle.trace_instance.specs.declared.change.FilterChange.{FilterChange}
use Rattle.trace_instance.specs.declared.event.InstanceEvent.{InstanceEvent}
use Rattle.trace_instance.specs.declared.hists.AttachedHist.{AttachedHist}
use Rattle.trace_instance.specs.declared.trigger.AttachedSnapshot.{AttachedSnapshot}

abbrev pub all_enabled : List InstanceEvent → List Bool
all_enabled events = map (λ (e : InstanceEvent). e.enabled) events

abbrev pub all_filters : List InstanceEvent → List (Option Parsed)
all_filters events = map (λ (e : InstanceEvent). e.filter) events

abbrev pub all_triggers : List InstanceEvent → List (Option AttachedSnapshot)
all_triggers events = map (λ (e : InstanceEvent). e.triggers.snapshot) events

abbrev pub all_hists : List InstanceEvent → List (List AttachedHist)
all_hists events = map (λ (e : InstanceEvent). e.triggers.hists) events

-- the events after a change of each one's filter
abbrev pub with_filters : List FilterChange → List InstanceEvent → List InstanceEvent
with_filters [] events = events
with_filters (change ∷ changes) [] = []
with_filters (change ∷ changes) (e ∷ events) = record e { filter = changed_filter change e.filter } ∷ with_filters changes events
