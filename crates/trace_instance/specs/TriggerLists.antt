-- The one list that an instance keeps of an event's triggers, and what contracts see of it.
use Rattle.std.specs.Prelude.{◌≡◌, ℕ, ◌++◌, ◌∷◌, nat_lt, not, Bool, true, false, List, [], map, Option, Some, None, is_some, ⊤}
use Rattle.std.specs.List.{filter, filter_map}
use Rattle.trace_instance.specs.Deliveries.{acted_once}
use Rattle.trace_instance.specs.KeptHists.{table_numbered}
use Rattle.trace_instance.specs.declared.hists.AttachedHist.{AttachedHist}
use Rattle.trace_instance.specs.declared.tables.Table.{Table}
use Rattle.trace_instance.specs.declared.trigger.EventTrigger.{EventTrigger}
use Rattle.trace_instance.specs.declared.trigger.EventTrigger.TheVariants.{Snapshot, Hist}
use Rattle.trace_instance.specs.declared.trigger.AttachedSnapshot.{AttachedSnapshot}

-- the triggers of each kind, and how many more there is memory for
pub record TriggersSeen : Type 0 where
  pub snapshot : Option AttachedSnapshot
  pub hists : List AttachedHist
  pub room : ℕ

-- ---- one trigger

abbrev pub snapshot_of : EventTrigger → Option AttachedSnapshot
snapshot_of (Snapshot t) = Some t
snapshot_of (Hist a) = None

abbrev pub hist_of : EventTrigger → Option AttachedHist
hist_of (Snapshot t) = None
hist_of (Hist a) = Some a

abbrev pub is_snapshot : EventTrigger → Bool
is_snapshot t = is_some (snapshot_of t)

-- whether it is a hist trigger that passes a test
abbrev pub is_hist : (AttachedHist → Bool) → EventTrigger → Bool
is_hist test (Snapshot t) = false
is_hist test (Hist a) = test a

abbrev pub number_of : EventTrigger → ℕ
number_of (Snapshot t) = t.number
number_of (Hist a) = a.number

-- its table, if it has one, is among these
abbrev pub HasTable : List Table → EventTrigger → Type 0
HasTable tables (Snapshot t) = ⊤
HasTable tables (Hist a) = is_some (table_numbered a.table tables) ≡ true

-- if it is for snapshots, there is none yet
abbrev pub IsOnly : EventTrigger → Option AttachedSnapshot → Type 0
IsOnly (Snapshot t) old = old ≡ None
IsOnly (Hist a) old = ⊤

-- the one for snapshots once this one is attached
abbrev pub with_snapshot : EventTrigger → Option AttachedSnapshot → Option AttachedSnapshot
with_snapshot (Snapshot t) old = Some t
with_snapshot (Hist a) old = old

-- a snapshot trigger that acted acts once less
abbrev pub counted : EventTrigger → EventTrigger
counted (Snapshot t) = Snapshot (acted_once t)
counted (Hist a) = Hist a

-- ---- a list of them

abbrev pub snapshot_in : List EventTrigger → Option AttachedSnapshot
snapshot_in [] = None
snapshot_in (Snapshot t ∷ list) = Some t
snapshot_in (Hist a ∷ list) = snapshot_in list

abbrev pub hists_in : List EventTrigger → List AttachedHist
hists_in list = filter_map hist_of list

-- the triggers of each kind in the order in which they were attached
abbrev pub in_order : Option AttachedSnapshot → List AttachedHist → List EventTrigger
in_order None hists = map Hist hists
in_order (Some t) hists =
    map Hist (filter (λ (a : AttachedHist). nat_lt a.number t.number) hists)
    ++ Snapshot t ∷ map Hist (filter (λ (a : AttachedHist). not (nat_lt a.number t.number)) hists)
