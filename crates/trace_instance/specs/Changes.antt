-- What a request that is done changes of one instance.
use Rattle.std.specs.Prelude.{◌≡◌, ℕ, ◌+◌, ◌<◌, min, slice_index_or, slice_set, replicate, Bool, true, false, List, [], ◌∷◌, ◌++◌, length, map, All, Option, Some, None, is_some, IfSome, option_map, if◌then◌else◌, ◌==◌, ⊤}
use Rattle.std.specs.List.{Contains}
use Rattle.page_ring.specs.Events.{Event}
use Rattle.trace_buffer.specs.Buffers as buffers
use Rattle.trace_buffer.specs.Families.{with_cleared, all_cleared, cpu_readings}
use Rattle.trace_buffer.specs.Orders.{after_cpu_reads}
use Rattle.trace_buffer.specs.CpuCounts.{after_reads_of_each}
use Rattle.trace_filter.specs.Filters.{Parsed, parsed_of}
use Rattle.trace_format.specs.Definitions.{Definition}
use Rattle.trace_command.specs.Requests.{Request}
use Rattle.trace_command.specs.declared.command.Config.{Config}
use Rattle.trace_trigger.specs.FittingLaws.{CountsAlike}
use Rattle.trace_trigger.specs.declared.spec.Action.{Action}
use Rattle.trace_hist.specs.Hists.{Seen, StandsFor}
use Rattle.tracer_specification.specs.HistTriggers.{HistTrigger, empties, hist_triggers, hits_of, is_pause, is_paused, paused_after}
use Rattle.trace_snapshot.specs.Sides as snapshot
use Rattle.trace_snapshot.specs.Sides.{SideFamilies, exchanged, spare_cleared, with_spare, without_spare}
use Rattle.tracer_specification.specs.Settings.{can_take, declared_events, is_enabled, is_tracing, kept_filter, overwrites}
use Rattle.trace_instance.specs.Instances.{InstanceSeen, IsShaped, IsSpared, TablesFit, WereOffered, kept_trigger, side_families}
use Rattle.trace_instance.specs.KeptHists.{KeptTable, asked_if, is_used, kept_at, kept_hists, kept_table, without_same}
use Rattle.trace_instance.specs.declared.hists.AttachedHist.{AttachedHist}
use Rattle.trace_instance.specs.declared.trigger.AttachedSnapshot.{AttachedSnapshot}
use Rattle.trace_instance.specs.declared.change.InstanceChange.{InstanceChange}
use Rattle.trace_instance.specs.declared.change.InstanceChange.TheVariants.{Switch, SwitchAll, SetFilter, SetFilters, ClearFilters, Triggers, SetOverwrite, SetTracing, Clear, ClearCpu, Take, TakeCpu, TakeSnapshot, FreeSpare, ClearSpare}
use Rattle.trace_instance.specs.declared.change.TriggerChange.{TriggerChange}
use Rattle.trace_instance.specs.declared.change.TriggerChange.TheVariants.{AttachSnapshot, DetachSnapshot, AttachHist, MakeHist, DetachHist, AskTable}
use Rattle.trace_instance.specs.declared.change.FilterChange.{FilterChange}
use Rattle.trace_instance.specs.declared.change.FilterChange.TheVariants as filter

-- ---- what a change leaves of an instance

-- the switches after a change
abbrev pub flags_after : InstanceChange → List Bool → List Bool
flags_after (Switch index flag) flags = slice_set flags index flag
flags_after (SwitchAll flag) flags = replicate (length flags) flag
flags_after change flags = flags

-- a filter after a change of it
abbrev pub changed_filter : FilterChange → Option Parsed → Option Parsed
changed_filter filter.Keep old = old
changed_filter (filter.Set new) old = Some new

-- whether the event gets a filter
abbrev pub is_set : FilterChange → Bool
is_set filter.Keep = false
is_set (filter.Set new) = true

-- the filters after a change of each
abbrev pub changed_filters : List FilterChange → List (Option Parsed) → List (Option Parsed)
changed_filters [] filters = filters
changed_filters (change ∷ changes) [] = []
changed_filters (change ∷ changes) (old ∷ filters) = changed_filter change old ∷ changed_filters changes filters

-- the filters after a change
abbrev pub filters_after : InstanceChange → List (Option Parsed) → List (Option Parsed)
filters_after (SetFilter index new) filters = slice_set filters index new
filters_after (SetFilters changes) filters = changed_filters changes.items filters
filters_after ClearFilters filters = replicate (length filters) None
filters_after change filters = filters

-- an event's trigger for snapshots after a change of its triggers
abbrev pub trigger_changed : TriggerChange → Option AttachedSnapshot → Option AttachedSnapshot
trigger_changed (AttachSnapshot trigger) old = Some trigger
trigger_changed DetachSnapshot old = None
trigger_changed change old = old

-- the triggers after a change
abbrev pub triggers_after : InstanceChange → List (Option AttachedSnapshot) → List (Option AttachedSnapshot)
triggers_after (Triggers index append (AttachSnapshot trigger)) triggers = slice_set triggers index (Some trigger)
triggers_after (Triggers index append DetachSnapshot) triggers = slice_set triggers index None
triggers_after change triggers = triggers

-- the hist triggers of an event after a change, of those that `>` or `>>` left
abbrev pub hists_changed : TriggerChange → List AttachedHist → List AttachedHist
hists_changed (AttachHist attached) hists = hists ++ attached ∷ []
hists_changed (MakeHist made) hists = hists ++ made.value.attached ∷ []
hists_changed (DetachHist spec) hists = without_same spec.value hists
hists_changed change hists = hists

-- those of each event
abbrev pub hists_after : InstanceChange → List (List AttachedHist) → List (List AttachedHist)
hists_after (Triggers index append change) hists =
    slice_set hists index (hists_changed change (if append then slice_index_or hists index [] else []))
hists_after change hists = hists

-- what is asked of the table of a number
abbrev pub asks_triggers : TriggerChange → ℕ → Option Action
asks_triggers (AttachHist attached) number = if attached.table == number then Some attached.spec.action else None
asks_triggers (MakeHist made) number = if made.value.attached.table == number then Some made.value.attached.spec.action else None
asks_triggers (AskTable table action) number = if table == number then Some action else None
asks_triggers change number = None

abbrev pub asks : InstanceChange → ℕ → Option Action
asks (Triggers index append change) number = asks_triggers change number
asks change number = None

-- the table of a number after a change: one that is made, or the one before, of which something may be asked
abbrev pub table_changed : TriggerChange → ℕ → Option KeptTable → Option KeptTable
table_changed (MakeHist made) number found = if made.value.attached.table == number then Some (kept_table made.value.hist) else found
table_changed change number found = option_map (asked_if (asks_triggers change number)) found

abbrev pub table_after : InstanceChange → ℕ → Option KeptTable → Option KeptTable
table_after (Triggers index append change) number found = table_changed change number found
table_after change number found = found

-- the same of a number in whose table no trigger counts after it: a change of triggers lets that table go
abbrev pub unused_after : InstanceChange → Option KeptTable → Option KeptTable
unused_after (Triggers index append change) found = None
unused_after change found = found

abbrev pub overwrite_after : InstanceChange → Bool → Bool
overwrite_after (SetOverwrite flag) overwrite = flag
overwrite_after change overwrite = overwrite

abbrev pub tracing_after : InstanceChange → Bool → Bool
tracing_after (SetTracing flag) tracing = flag
tracing_after change tracing = tracing

-- the rings of the live side after a change, for rings of so many pages of so many bytes
abbrev pub rings_changed : ℕ → ℕ → InstanceChange → List (List Event) → List (List Event)
rings_changed pages page_bytes Clear family = all_cleared family
rings_changed pages page_bytes (ClearCpu cpu) family = with_cleared cpu family
rings_changed pages page_bytes (Take counts) family = after_reads_of_each pages page_bytes counts family
rings_changed pages page_bytes (TakeCpu cpu limit) family = after_cpu_reads cpu (min limit (length (cpu_readings pages page_bytes family cpu))) family
rings_changed pages page_bytes change family = family

-- both sides after a change
abbrev pub sides_changed : ℕ → ℕ → ℕ → InstanceChange → SideFamilies → SideFamilies
sides_changed cpus pages page_bytes (Triggers index append (AttachSnapshot trigger)) f = with_spare cpus f
sides_changed cpus pages page_bytes TakeSnapshot f = exchanged (with_spare cpus f)
sides_changed cpus pages page_bytes FreeSpare f = without_spare f
sides_changed cpus pages page_bytes ClearSpare f = spare_cleared f
sides_changed cpus pages page_bytes change f = record { live = rings_changed pages page_bytes change f.live; spare = f.spare }

-- a trigger with this number can be attached where these are left: there is room, and each of these was attached before it
pub record IsNewest (number : ℕ) (trigger : Option AttachedSnapshot) (hists : List AttachedHist) : Type 0 where
  pub few : length hists + (if is_some trigger then 1 else 0) < 4
  pub after_snapshot : IfSome trigger (λ t. t.number < number)
  pub after_hists : All (λ a. a.number < number) hists

-- a change of an event's triggers can be made where these are left
abbrev pub IsPossible : TriggerChange → Option AttachedSnapshot → List AttachedHist → Type 0
IsPossible (AttachSnapshot new) trigger hists = (trigger ≡ None) × IsNewest new.number trigger hists
IsPossible (AttachHist attached) trigger hists = IsNewest attached.number trigger hists
IsPossible (MakeHist made) trigger hists = IsNewest made.value.attached.number trigger hists
IsPossible change trigger hists = ⊤

-- a change can be made: what it names is there, and a trigger that it attaches has room and is the newest
abbrev pub IsLawful : InstanceSeen → InstanceChange → Type 0
IsLawful i (Switch index flag) = index < length i.enabled
IsLawful i (SetFilter index new) = index < length i.filters
IsLawful i (SetFilters changes) = length changes.items ≡ length i.filters
IsLawful i (Triggers index append change) = (index < length i.triggers) × (index < length i.hists)
    × IsPossible change (slice_index_or i.triggers index None) (if append then slice_index_or i.hists index [] else [])
IsLawful i (ClearCpu cpu) = cpu < buffers.cpus i.sides.live
IsLawful i (TakeCpu cpu limit) = cpu < buffers.cpus i.sides.live
IsLawful i change = ⊤

-- a change was made
pub record IsApplied (change : InstanceChange) (old new : InstanceSeen) : Type 0 where
  pub enabled : new.enabled ≡ flags_after change old.enabled
  pub filters : new.filters ≡ filters_after change old.filters
  pub triggers : new.triggers ≡ triggers_after change old.triggers
  pub hists : new.hists ≡ hists_after change old.hists
  pub tables : (number : ℕ) → is_used number new.hists ≡ true → kept_at number new.tables ≡ table_after change number (kept_at number old.tables)
  pub unused : (number : ℕ) → is_used number new.hists ≡ false → kept_at number new.tables ≡ unused_after change (kept_at number old.tables)
  pub overwrite : new.overwrite ≡ overwrite_after change old.overwrite
  pub tracing : new.tracing ≡ tracing_after change old.tracing
  pub sides : (families : SideFamilies) → snapshot.StandsFor old.sides families
      → snapshot.StandsFor new.sides (sides_changed old.sides.cpus old.sides.live.pages old.sides.live.page_bytes change families)
  pub shaped : (g : Config) → IsShaped g old.sides → IsShaped g new.sides
  pub offered : (most : ℕ) → WereOffered most old.sides → WereOffered most new.sides

-- an instance with one more event, which is disabled and has no filter and no triggers
abbrev pub with_event : InstanceSeen → InstanceSeen
with_event i = record i {
  enabled = i.enabled ++ false ∷ [];
  filters = i.filters ++ None ∷ [];
  triggers = i.triggers ++ None ∷ [];
  hists = i.hists ++ [] ∷ [];
}

-- ---- when a change is what a request says of an instance

-- a request asks this of the table of a number, and nothing is counted there
pub record IsAsked (name : Option (List ℕ)) (past : List Request) (request : Request) (asked : Option Action) (number : ℕ) : Type 0 where
  pub paused : is_paused name number (request ∷ past) ≡ paused_after asked (is_paused name number past)
  pub hits : hits_of name number (request ∷ past) ≡ (if empties asked then [] else hits_of name number past)

-- a trigger of the instance counts in the table of another one, and counts alike
pub record Joins (name : Option (List ℕ)) (past : List Request) (attached : AttachedHist) : Type 0 where
  pub t : HistTrigger
  pub there : Contains (hist_triggers name past) t
  pub table : t.table ≡ attached.table
  pub alike : CountsAlike attached.spec t.spec

-- a table is made with a trigger: it is empty, and paused if that asks for it
pub record IsMadeFor (past : List Request) (attached : AttachedHist) (hist : Seen) : Type 0 where
  pub table : attached.table ≡ length past
  pub spec : hist.spec ≡ attached.spec
  pub empty : StandsFor hist []
  pub paused : hist.paused ≡ is_pause attached.spec.action

-- a hist trigger that is attached counts in a table that is there, or in one that is made with it
abbrev pub IsJoinedBy : Option (List ℕ) → List Request → TriggerChange → Type 0
IsJoinedBy name past (AttachHist attached) = Joins name past attached
IsJoinedBy name past (MakeHist made) = IsMadeFor past made.value.attached made.value.hist
IsJoinedBy name past change = ⊤

abbrev pub IsJoined : Option (List ℕ) → List Request → InstanceChange → Type 0
IsJoined name past (Triggers index append change) = IsJoinedBy name past change
IsJoined name past change = ⊤

-- a change says of an instance what the definitions say of a request after this past
pub record IsEffect (g : Config) (name : Option (List ℕ)) (past : List Request) (request : Request) (change : InstanceChange) : Type 0 where
  pub enabled : map (λ event. is_enabled name event.name (request ∷ past)) (declared_events past)
      ≡ flags_after change (map (λ event. is_enabled name event.name past) (declared_events past))
  pub filters : map (kept_filter name (request ∷ past)) (declared_events past) ≡ filters_after change (map (kept_filter name past) (declared_events past))
  pub triggers : map (kept_trigger name (request ∷ past)) (declared_events past) ≡ triggers_after change (map (kept_trigger name past) (declared_events past))
  pub hists : map (kept_hists name (request ∷ past)) (declared_events past) ≡ hists_after change (map (kept_hists name past) (declared_events past))
  pub tables : (number : ℕ) → IsAsked name past request (asks change number) number
  pub joined : IsJoined name past change
  pub fitting : TablesFit name past → TablesFit name (request ∷ past)
  pub overwrite : overwrites name (request ∷ past) ≡ overwrite_after change (overwrites name past)
  pub tracing : is_tracing name (request ∷ past) ≡ tracing_after change (is_tracing name past)
  pub sides : IsSpared g name (declared_events past) past
      → side_families g name (request ∷ past) ≡ sides_changed g.cpus g.pages g.page_bytes change (side_families g name past)
  pub spared : IsSpared g name (declared_events past) past → IsSpared g name (declared_events past) (request ∷ past)

-- what a filter of all events changes of one's
abbrev pub change_of : List ℕ → Definition → FilterChange
change_of text event = if can_take text event then filter.Set (parsed_of event text) else filter.Keep
