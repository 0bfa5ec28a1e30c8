-- What contracts see of an instance, and when it agrees with the requests that were done.
use Rattle.std.specs.Prelude.{◌≡◌, ℕ, ◌≤◌, Bool, true, false, List, [], length, map, slice_index_or, replicate, All, Option, None, is_some, IfSome}
use Rattle.std.specs.List.{AllByRecursion, Contains, list_any}
use Rattle.std.specs.Option.{option_map}
use Rattle.trace_buffer.specs.Buffers as buffers
use Rattle.trace_filter.specs.Filters.{Parsed}
use Rattle.trace_format.specs.Definitions.{Definition}
use Rattle.trace_snapshot.specs.Sides.{SideFamilies, SidesSeen}
use Rattle.trace_snapshot.specs.Sides as snapshot
use Rattle.trace_command.specs.Requests.{Request}
use Rattle.trace_command.specs.declared.command.Config.{Config}
use Rattle.tracer_specification.specs.Settings.{declared_events, is_enabled, kept_filter, overwrites, is_tracing}
use Rattle.tracer_specification.specs.Rings.{rings, other_rings, spare_rings}
use Rattle.tracer_specification.specs.Snapshots.{has_spare}
use Rattle.tracer_specification.specs.HistTriggers.{HistTrigger, hist_triggers}
use Rattle.tracer_specification.specs.Triggers as triggers
use Rattle.trace_trigger.specs.FittingSpecs.{is_fitting}
use Rattle.tracer_specification.specs.Triggers.{times_left, snapshot_trigger_of}
use Rattle.trace_instance.specs.declared.hists.AttachedHist.{AttachedHist}
use Rattle.trace_instance.specs.declared.trigger.AttachedSnapshot.{AttachedSnapshot}
use Rattle.trace_format.specs.Operands.{Emission}
use Rattle.trace_instance.specs.KeptHists.{TableStandsFor, is_used, kept_at, kept_hists, passed, KeysAgree, table_numbered}
use Rattle.trace_instance.specs.declared.tables.Table.{Table}

-- which events are enabled, their filters, their triggers for snapshots and their hist triggers, in order of declaration; the tables of hist triggers;
-- whether records may overwrite older ones, and whether it records at all; and its rings
pub record InstanceSeen : Type 0 where
  pub enabled : List Bool
  pub filters : List (Option Parsed)
  pub triggers : List (Option AttachedSnapshot)
  pub hists : List (List AttachedHist)
  pub tables : List Table
  pub overwrite : Bool
  pub tracing : Bool
  pub sides : SidesSeen

-- ---- the shape of rings, and how many records they were offered

pub record HasShape (g : Config) (side : buffers.Seen) : Type 0 where
  pub cpus : buffers.cpus side ≡ g.cpus
  pub pages : side.pages ≡ g.pages
  pub page_bytes : side.page_bytes ≡ g.page_bytes

pub record IsShaped (g : Config) (s : SidesSeen) : Type 0 where
  pub cpus : s.cpus ≡ g.cpus
  pub pages : s.pages ≡ g.pages
  pub page_bytes : s.page_bytes ≡ g.page_bytes
  pub live : HasShape g s.live
  pub spare : IfSome s.spare (HasShape g)

-- each ring was offered at most so many
abbrev pub WasOffered : ℕ → buffers.Seen → Type 0
WasOffered most side = AllByRecursion (λ n. n ≤ most) (buffers.offers side)

abbrev pub WereOffered : ℕ → SidesSeen → Type 0
WereOffered most s = WasOffered most s.live × IfSome s.spare (WasOffered most)

-- ---- what the requests say

-- a trigger as an instance keeps it
abbrev pub kept_as : List Request → Definition → triggers.Trigger → AttachedSnapshot
kept_as past event t = record { number = t.number; left = times_left event t past; filter = t.spec.filter }

abbrev pub kept_trigger : Option (List ℕ) → List Request → Definition → Option AttachedSnapshot
kept_trigger name past event = option_map (kept_as past event) (snapshot_trigger_of name event past)

-- the filters of which hist triggers of the event at an index an emission passes
abbrev pub passed_in : Emission → ℕ → InstanceSeen → List Bool
passed_in emission event i = passed emission (slice_index_or i.hists event [])

-- what happened to the rings of each side
abbrev pub side_families : Config → Option (List ℕ) → List Request → SideFamilies
side_families g name past = record { live = rings g name past; spare = spare_rings g name past }

-- a side that is no spare is empty, and there is a spare where one of these events has a trigger for snapshots
pub record IsSpared (g : Config) (name : Option (List ℕ)) (events : List Definition) (past : List Request) : Type 0 where
  pub unused : has_spare name past ≡ false → other_rings g name past ≡ replicate g.cpus []
  pub armed : list_any (λ event. is_some (snapshot_trigger_of name event past)) events ≡ true → has_spare name past ≡ true

-- the hist triggers of an instance that share a table fit each other
abbrev pub TablesFit : Option (List ℕ) → List Request → Type 0
TablesFit name past =
    (t u : HistTrigger) → Contains (hist_triggers name past) t → Contains (hist_triggers name past) u → t.table ≡ u.table → is_fitting t.spec u.spec ≡ true

-- a table goes with its last trigger: a number in whose table no trigger counts has none
abbrev pub TablesAreUsed : InstanceSeen → Type 0
TablesAreUsed i = (number : ℕ) → is_used number i.hists ≡ false → kept_at number i.tables ≡ None

-- each part of the instance of this name (none is the top one) is what the requests say of it
pub record InstanceStandsFor (g : Config) (name : Option (List ℕ)) (past : List Request) (i : InstanceSeen) : Type 0 where
  pub enabled : i.enabled ≡ map (λ event. is_enabled name event.name past) (declared_events past)
  pub filters : i.filters ≡ map (kept_filter name past) (declared_events past)
  pub triggers : i.triggers ≡ map (kept_trigger name past) (declared_events past)
  pub hists : i.hists ≡ map (kept_hists name past) (declared_events past)
  pub tables : All (λ (attached : List AttachedHist). All (TableStandsFor name past i.tables) attached) i.hists
  pub used : TablesAreUsed i
  pub fitting : TablesFit name past
  pub overwrite : i.overwrite ≡ overwrites name past
  pub tracing : i.tracing ≡ is_tracing name past
  pub sides : snapshot.StandsFor i.sides (side_families g name past)
  pub shaped : IsShaped g i.sides
  pub offered : WereOffered (length past) i.sides
  pub spared : IsSpared g name (declared_events past) past

-- two instances agree in all but memory for rows
pub record IsAlike (old new : InstanceSeen) : Type 0 where
  pub rest : new ≡ record old { tables = new.tables }
  pub tables : (number : ℕ) → kept_at number new.tables ≡ kept_at number old.tables

-- what every instance of a book has, where so many events are declared
pub record IsUsableInstance (g : Config) (events : ℕ) (i : InstanceSeen) : Type 0 where
  pub enabled : length i.enabled ≡ events
  pub filters : length i.filters ≡ events
  pub triggers : length i.triggers ≡ events
  pub hists : length i.hists ≡ events
  pub tables : All (λ (attached : List AttachedHist). All (λ (a : AttachedHist). is_some (table_numbered a.table i.tables) ≡ true) attached) i.hists
  pub agree : All KeysAgree i.hists
  pub shaped : IsShaped g i.sides
