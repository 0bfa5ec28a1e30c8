-- Hist triggers and their tables as an instance keeps them: what of them agrees with the requests, and what is done to them.
use Rattle.std.specs.Prelude.{◌≡◌, ℕ, ◌+◌, ◌==◌, ◌<◌, ◌≤◌, zero, suc, Bool, true, false, not, ◌&&◌, if◌then◌else◌, List, [], ◌∷◌, ◌++◌, length, map, slice_index_or, Option, Some, None, option_map, IfSome, ⊤}
use Rattle.std.specs.List.{filter, flat_map, list_any}
use Rattle.trace_format.specs.Operands.{Emission}
use Rattle.trace_format.specs.Definitions.{Definition}
use Rattle.trace_hist.specs.Groups.{Table as Entries, grouped}
use Rattle.trace_trigger.specs.FittingLaws.{CountsAlike}
use Rattle.trace_trigger.specs.HistSpecs.{SpecSeen}
use Rattle.hist_entries.specs.Hits.{Hit}
use Rattle.trace_hist.specs.TriggerHits.{hit_of}
use Rattle.trace_hist.specs.Hists.{IsReservedAs, NeedsEntryAs, Seen, counted}
use Rattle.hist_entries.specs.RowPlaces.{most_rows}
use Rattle.trace_trigger.specs.SameSpecs.{is_same, is_passed}
use Rattle.trace_trigger.specs.declared.spec.Action.{Action}
use Rattle.trace_command.specs.Requests.{Request}
use Rattle.tracer_specification.specs.HistTriggers.{HistTrigger, empties, hists_of, hits_of, is_paused, paused_after}
use Rattle.trace_instance.specs.declared.hists.AttachedHist.{AttachedHist}
use Rattle.trace_instance.specs.declared.tables.Table.{Table}

-- ---- triggers

abbrev pub says_same : SpecSeen → AttachedHist → Bool
says_same spec attached = is_same spec attached.spec

-- an event's hist triggers without those that say the same
abbrev pub without_same : SpecSeen → List AttachedHist → List AttachedHist
without_same spec hists = filter (λ (a : AttachedHist). not (says_same spec a)) hists

-- a hist trigger as the requests have it
abbrev pub attached_as : HistTrigger → AttachedHist
attached_as t = record { number = t.number; table = t.table; spec = t.spec }

-- those of an event, in the order in which they were attached
abbrev pub kept_hists : Option (List ℕ) → List Request → Definition → List AttachedHist
kept_hists name past event = map attached_as (hists_of name event past)

-- whether one of an event counts in the table of a number, and one of any event
abbrev pub uses_table : ℕ → List AttachedHist → Bool
uses_table number hists = list_any (λ (a : AttachedHist). a.table == number) hists

abbrev pub is_used : ℕ → List (List AttachedHist) → Bool
is_used number hists = list_any (uses_table number) hists

-- two triggers of an event that count in one table have the same keys
abbrev pub KeysAgree : List AttachedHist → Type 0
KeysAgree hists =
    (j k : ℕ) (d : AttachedHist) → j < length hists → k < length hists → (slice_index_or hists j d).table ≡ (slice_index_or hists k d).table
    → (slice_index_or hists j d).spec.keys ≡ (slice_index_or hists k d).spec.keys

-- ---- tables

-- the first table of a number
abbrev pub table_numbered : ℕ → List Table → Option Seen
table_numbered number [] = None
table_numbered number (t ∷ tables) = if t.number == number then Some t.hist else table_numbered number tables

-- what of a table agrees with the requests: what it was made with, whether it is paused, its entries and totals
pub record KeptTable : Type 0 where
  pub spec : SpecSeen
  pub paused : Bool
  pub table : Entries

abbrev pub kept_table : Seen → KeptTable
kept_table hist = record { spec = hist.spec; paused = hist.paused; table = hist.table }

abbrev pub kept_at : ℕ → List Table → Option KeptTable
kept_at number tables = option_map kept_table (table_numbered number tables)

-- the table of a trigger is there and is what the requests say
pub record TableStandsFor (name : Option (List ℕ)) (past : List Request) (tables : List Table) (a : AttachedHist) : Type 0 where
  pub kept : KeptTable
  pub there : kept_at a.table tables ≡ Some kept
  pub paused : kept.paused ≡ is_paused name a.table past
  pub table : kept.table ≡ grouped kept.spec (hits_of name a.table past)
  pub alike : CountsAlike a.spec kept.spec

-- ---- what is done to them

-- what a string asks of a table
abbrev pub asked : Action → KeptTable → KeptTable
asked action k = record {
  spec = k.spec;
  paused = paused_after (Some action) k.paused;
  table = if empties (Some action) then grouped k.spec [] else k.table;
}

-- perhaps nothing
abbrev pub asked_if : Option Action → KeptTable → KeptTable
asked_if None k = k
asked_if (Some action) k = asked action k

-- whether there is one at an index and an emission passes its filter
abbrev pub is_passed_at : Emission → List AttachedHist → ℕ → Bool
is_passed_at emission [] index = false
is_passed_at emission (a ∷ hists) zero = is_passed a.spec.filter emission
is_passed_at emission (a ∷ hists) (suc index) = is_passed_at emission hists index

-- the same at each index that an event's hist trigger may have
abbrev pub passed : Emission → List AttachedHist → List Bool
passed emission hists =
    is_passed_at emission hists 0 ∷ is_passed_at emission hists 1 ∷ is_passed_at emission hists 2 ∷ is_passed_at emission hists 3 ∷ []

-- memory is at hand to count an emission in the trigger's table, if its filter passes that
abbrev pub CanCount : Emission → List Table → AttachedHist → Type 0
CanCount emission tables a =
    is_passed a.spec.filter emission ≡ true → IfSome (table_numbered a.table tables) (λ hist. IsReservedAs hist a.spec emission)

-- a row needs memory in a table, if that is there: it needs a new entry, as a trigger reads it
abbrev pub NeedsMemoryIn : SpecSeen → Emission → Option Seen → Type 0
NeedsMemoryIn by emission None = ⊥
NeedsMemoryIn by emission (Some hist) = NeedsEntryAs hist by emission

-- an emission needs memory to be counted in the trigger's table: its filter passes that, and the row needs a new entry
pub record NeedsMemory (emission : Emission) (tables : List Table) (a : AttachedHist) : Type 0 where
  pub passes : is_passed a.spec.filter emission ≡ true
  pub entry : NeedsMemoryIn a.spec emission (table_numbered a.table tables)

-- one emission more may be counted in a trigger's table, by each trigger of its event
abbrev pub HasRoomToCount : List Table → AttachedHist → Type 0
HasRoomToCount tables a = IfSome (table_numbered a.table tables) (λ hist. counted hist + 4 ≤ most_rows)

-- the row that a trigger counts of an emission in the table of a number
abbrev pub row_counted : ℕ → Emission → AttachedHist → List Hit
row_counted number emission a = if (a.table == number) && is_passed a.spec.filter emission then hit_of a.spec emission ∷ [] else []

-- the rows that the triggers of an event count in it; it may be paused
abbrev pub rows_counted : ℕ → Bool → List AttachedHist → Emission → List Hit
rows_counted number true hists emission = []
rows_counted number false hists emission = flat_map (row_counted number emission) hists

-- these rows were counted in a table
pub record IsHit (rows : List Hit) (old new : KeptTable) : Type 0 where
  pub spec : new.spec ≡ old.spec
  pub paused : new.paused ≡ old.paused
  pub table : (before : List Hit) → old.table ≡ grouped old.spec before → new.table ≡ grouped old.spec (before ++ rows)

-- there was none before and there is none now, or these rows were counted in it
abbrev pub IsHitIf : (Bool → List Hit) → Option KeptTable → Option KeptTable → Type 0
IsHitIf rows None None = ⊤
IsHitIf rows None (Some new) = ⊥
IsHitIf rows (Some old) None = ⊥
IsHitIf rows (Some old) (Some new) = IsHit (rows old.paused) old new

-- an emission reached the tables: the triggers of its event have counted it
abbrev pub AreHit : Emission → List AttachedHist → List Table → List Table → Type 0
AreHit emission hists old new =
    (number : ℕ) → IsHitIf (λ paused. rows_counted number paused hists emission) (kept_at number old) (kept_at number new)
