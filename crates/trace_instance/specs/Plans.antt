-- What an emission of an event does in an instance, as far as the instance's settings say it for every row (trace_events.h, the flags of
-- `struct trace_event_file`); and of which events a change may change that.
use Rattle.std.specs.Prelude.{ℕ, Bool, true, false, not, ◌&&◌, ◌||◌, ◌==◌, if◌then◌else◌, List, [], length, slice_index_or, Option, Some, None, is_some}
use Rattle.trace_filter.specs.Filters.{Parsed}
use Rattle.trace_instance.specs.Instances.{InstanceSeen}
use Rattle.trace_instance.specs.declared.change.InstanceChange.{InstanceChange}
use Rattle.trace_instance.specs.declared.change.InstanceChange.TheVariants.{Switch, SwitchAll, SetFilter, SetFilters, ClearFilters, Triggers, SetTracing}
use Rattle.trace_instance.specs.declared.hists.AttachedHist.{AttachedHist}
use Rattle.trace_instance.specs.declared.plan.Plan.{Plan}
use Rattle.trace_instance.specs.declared.plan.Plan.TheVariants.{Nothing, Record, Ask}
use Rattle.trace_instance.specs.declared.plan.Touched.{Touched}

-- what is done where no trigger is, if emissions are recorded or not, by the filter
abbrev pub recording : Bool → Option Parsed → Plan
recording false filter = Nothing
recording true None = Record
recording true (Some filter) = Ask

-- what is done, if emissions are recorded or not, by the filter, whether there is a snapshot trigger, and the hist triggers
abbrev pub planned : Bool → Option Parsed → Bool → List AttachedHist → Plan
planned on filter armed hists = if armed || not (length hists == 0) then Ask else recording on filter

-- what an emission of the event at an index does; of one that is not there, nothing
abbrev pub plan_of : InstanceSeen → ℕ → Plan
plan_of i event =
    planned (i.tracing && slice_index_or i.enabled event false) (slice_index_or i.filters event None) (is_some (slice_index_or i.triggers event None))
    (slice_index_or i.hists event [])

-- the events of whose settings a change is, where so many are declared
abbrev pub touched : ℕ → InstanceChange → Touched
touched events (Switch index flag) = record { first = index; count = 1 }
touched events (SetFilter index new) = record { first = index; count = 1 }
touched events (Triggers index append change) = record { first = index; count = 1 }
touched events (SwitchAll flag) = record { first = 0; count = events }
touched events (SetFilters changes) = record { first = 0; count = events }
touched events ClearFilters = record { first = 0; count = events }
touched events (SetTracing flag) = record { first = 0; count = events }
touched events change = record { first = 0; count = 0 }
