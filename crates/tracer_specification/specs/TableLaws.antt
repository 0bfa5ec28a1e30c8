-- What tables of hist triggers come to, after any requests and after those that were done (histogram.rst, "hist triggers"). The newest request comes first.
use Rattle.std.specs.Prelude.{◌≡◌, ◌⊎◌, ℕ, ◌==◌, nat_lt, Bool, true, false, not, ◌&&◌, is_some, bytes_eq, List, [], ◌∷◌, ◌++◌, length, map, All, Option, Some, None, Ok}
use Rattle.std.specs.List.{Contains, filter, flat_map}
use Rattle.trace_format.specs.Definitions.{Definition}
use Rattle.trace_hist.specs.Groups.{grouped}
use Rattle.hist_entries.specs.Hits.{Hit}
use Rattle.trace_trigger.specs.FittingSpecs.{Fits}
use Rattle.trace_trigger.specs.HistSpecs.{SpecSeen}
use Rattle.trace_trigger.specs.SameSpecs.{IsSame}
use Rattle.trace_trigger.specs.TriggerTexts.{said_of}
use Rattle.trace_trigger.specs.declared.spec.Action.TheVariants.{Attach, Pause, Clear}
use Rattle.trace_trigger.specs.declared.trigger.TriggerText.TheVariants.{Hist}
use Rattle.trace_command.specs.Paths.{OfEvent}
use Rattle.trace_command.specs.Requests.{Request, WriteFile}
use Rattle.trace_command.specs.declared.command.Config.{Config}
use Rattle.trace_command.specs.declared.file_name.EventFile.TheVariants as per_event
use Rattle.tracer_specification.specs.Emissions.{Emitted, emitted}
use Rattle.tracer_specification.specs.Pasts.{AreDone}
use Rattle.tracer_specification.specs.HistTriggers.{HistTrigger, Written, asked_by, counted_hit, empties, hist_triggers, hists_of, hits_of, is_name_of, is_of, is_pause, is_paused, left_by, paused_after, says_same, table_of, written_for, written_to}
use Rattle.tracer_specification.specs.Laws.{IsAttachedBy, some_later}
use Rattle.tracer_specification.specs.Settings.{makes}
use Rattle.tracer_specification.specs.Triggers.{passes}

-- ---- whose tables they are

-- hist triggers of an instance that have one name share a table, and two that share one have one name, or are one trigger
abbrev pub NamedTablesAreShared : Type 0
NamedTablesAreShared =
    (instance : Option (List ℕ)) (past : List Request) (t u : HistTrigger)
    → Contains (hist_triggers instance past) t → Contains (hist_triggers instance past) u
    → (is_name_of t.spec.name u.spec.name ≡ true → t.table ≡ u.table)
    × (t.table ≡ u.table → (t ≡ u) ⊎ (is_name_of t.spec.name u.spec.name ≡ true))

-- after requests that were done those that share a table fit each other
abbrev pub SharedTablesFit : Type 0
SharedTablesFit =
    (g : Config) (past : List Request) (instance : Option (List ℕ)) (t u : HistTrigger) → AreDone g past
    → Contains (hist_triggers instance past) t → Contains (hist_triggers instance past) u
    → t.table ≡ u.table → Fits t.spec u.spec

-- so they show the table alike: its entries and totals are the same for each of them, and so are the sort keys by which the entries are printed
abbrev pub SharedTablesAreShownAlike : Type 0
SharedTablesAreShownAlike =
    (g : Config) (past : List Request) (instance : Option (List ℕ)) (t u : HistTrigger) → AreDone g past
    → Contains (hist_triggers instance past) t → Contains (hist_triggers instance past) u
    → t.table ≡ u.table
    → (table_of instance t past ≡ table_of instance u past) × (t.spec.sort_sources ≡ u.spec.sort_sources)

-- a table begins with no row counted, and paused if the string that makes it asks for that
abbrev pub TablesBeginEmpty : Type 0
TablesBeginEmpty =
    (instance : Option (List ℕ)) (past : List Request) (request : Request)
    → All (λ t. t.table ≡ length past
    → (hits_of instance t.table (request ∷ past) ≡ []) × (is_paused instance t.table (request ∷ past) ≡ is_pause t.spec.action))
    (hist_triggers instance (request ∷ past))

-- It goes with the last of its triggers, of whatever event. A trigger that is attached where none of those that are left has its name gets a table
-- that it shares with no other, and that has no row.
abbrev pub TablesGoWithTheirLast : Type 0
TablesGoWithTheirLast =
    (instance : Option (List ℕ)) (t : HistTrigger) (past : List Request) (request : Request) (by : IsAttachedBy instance t past request)
    → All (λ left. is_name_of t.spec.name left.spec.name ≡ false) (left_by t.event by.append (hist_triggers instance past))
    → (hits_of instance t.table (request ∷ past) ≡ []) × All (λ other. t.table ≡ other.table → t ≡ other) (hist_triggers instance (request ∷ past))

-- ---- what is asked of them

-- whether a request asks something of a table, and whether it empties it
abbrev pub asks : Option (List ℕ) → ℕ → List Request → Request → Bool
asks instance table past request = is_some (asked_by instance table past request)

abbrev pub clears : Option (List ℕ) → ℕ → List Request → Request → Bool
clears instance table past request = empties (asked_by instance table past request)

-- what is asked of any of its triggers is asked of a table
abbrev pub TablesAreAskedThroughEach : Type 0
TablesAreAskedThroughEach =
    (instance : Option (List ℕ)) (past : List Request) (text : List ℕ) (spec : SpecSeen)
    → All (λ t. said_of t.event text ≡ Ok (Hist spec) → IsSame spec t.spec
    → is_paused instance t.table (WriteFile instance (Some (OfEvent t.event.name per_event.Trigger)) true text ∷ past)
    ≡ paused_after (Some spec.action) (is_paused instance t.table past)) (hist_triggers instance past)

-- where a trigger is asked to empty its table, no row is left, and the table is paused if it was before
abbrev pub ClearsLeaveNone : Type 0
ClearsLeaveNone =
    (instance : Option (List ℕ)) (past : List Request) (text : List ℕ) (spec : SpecSeen)
    → All (λ t. said_of t.event text ≡ Ok (Hist spec) → IsSame spec t.spec → spec.action ≡ Clear
    → (hits_of instance t.table (WriteFile instance (Some (OfEvent t.event.name per_event.Trigger)) true text ∷ past) ≡ [])
    × (is_paused instance t.table (WriteFile instance (Some (OfEvent t.event.name per_event.Trigger)) true text ∷ past)
    ≡ is_paused instance t.table past)) (hist_triggers instance past)

-- until something is asked of a table, it stays paused or not, whatever else is done
abbrev pub OnlyAskingPauses : Type 0
OnlyAskingPauses =
    (instance : Option (List ℕ)) (table : ℕ) (later past : List Request) → some_later (asks instance table) later past ≡ false
    → is_paused instance table (later ++ past) ≡ is_paused instance table past

-- until something is asked of a table that is paused, it stays so and counts nothing, whatever else is done
abbrev pub PausesCountNothing : Type 0
PausesCountNothing =
    (instance : Option (List ℕ)) (table : ℕ) (later past : List Request) → is_paused instance table past ≡ true
    → some_later (asks instance table) later past ≡ false
    → (is_paused instance table (later ++ past) ≡ true) × (hits_of instance table (later ++ past) ≡ hits_of instance table past)

-- A request that does not make the instance and does not write to an event's trigger file in it leaves which hist triggers of the event there are.
abbrev pub OtherRequestsLeaveHistTriggers : Type 0
OtherRequestsLeaveHistTriggers =
    (instance : Option (List ℕ)) (event : Definition) (past : List Request) (request : Request)
    → makes instance request ≡ false → written_for event (written_to instance past request) ≡ None
    → hists_of instance event (request ∷ past) ≡ hists_of instance event past

-- If a request does not write to the trigger file of any event that has a trigger of a table after it, the table stays paused or not, and keeps the rows
-- that it counted, unless the request is an emission: no switch and no filter of an event, and nothing that another instance is asked, changes them.
abbrev pub OtherRequestsLeaveTables : Type 0
OtherRequestsLeaveTables =
    (instance : Option (List ℕ)) (table : ℕ) (past : List Request) (request : Request)
    → All (λ t. t.table ≡ table → written_for t.event (written_to instance past request) ≡ None) (hist_triggers instance (request ∷ past))
    → (is_paused instance table (request ∷ past) ≡ is_paused instance table past)
    × (emitted past request ≡ None → hits_of instance table (request ∷ past) ≡ hits_of instance table past)

-- A trigger that is attached and joins a table pauses it if it says `pause`. If it says nothing of the kind, the table stays paused or not as it was.
-- Unless the trigger empties it, the table keeps the rows that it counted.
abbrev pub JoiningPausesOrLeaves : Type 0
JoiningPausesOrLeaves =
    (instance : Option (List ℕ)) (t : HistTrigger) (past : List Request) (request : Request) → IsAttachedBy instance t past request
    → (t.spec.action ≡ Pause → is_paused instance t.table (request ∷ past) ≡ true)
    × (t.spec.action ≡ Attach → is_paused instance t.table (request ∷ past) ≡ is_paused instance t.table past)
    × (empties (Some t.spec.action) ≡ false → hits_of instance t.table (request ∷ past) ≡ hits_of instance t.table past)

-- What is written for other triggers leaves a table too, also where they are of an event that has a trigger of the table: if the string says the same as
-- none of the table's triggers of its event, the table stays paused or not, and keeps the rows that it counted.
abbrev pub OtherTriggersLeaveTables : Type 0
OtherTriggersLeaveTables =
    (instance : Option (List ℕ)) (table : ℕ) (past : List Request) (request : Request)
    → ((w : Written) (spec : SpecSeen) → written_to instance past request ≡ Some w → said_of w.event w.text ≡ Ok (Hist spec)
    → All (λ t. t.table ≡ table → is_of w.event t ≡ true → says_same spec t ≡ false) (hist_triggers instance (request ∷ past)))
    → (is_paused instance table (request ∷ past) ≡ is_paused instance table past)
    × (emitted past request ≡ None → hits_of instance table (request ∷ past) ≡ hits_of instance table past)

-- ---- what they count

-- whether a hist trigger meets an emission: it is one of its event, and its filter holds
abbrev pub meets : HistTrigger → Emitted → Bool
meets t e = bytes_eq t.event.name e.k.event.name && passes t.spec.filter e

-- the rows of an emission, one for each of these triggers that passes a test and meets it
abbrev pub rows_met : (HistTrigger → Bool) → List HistTrigger → Option Emitted → List Hit
rows_met test hists None = []
rows_met test hists (Some e) = map (λ t. counted_hit t e) (filter (λ t. test t && meets t e) hists)

-- a row is that of an emission that a trigger of a table met, which was there then, after the table was last emptied, and while it was not paused
pub record IsRowOfEmission (instance : Option (List ℕ)) (table : ℕ) (past : List Request) (row : Hit) : Type 0 where
  pub later : List Request
  pub request : Request
  pub before : List Request
  pub cut : past ≡ later ++ request ∷ before
  pub kept : some_later (clears instance table) later (request ∷ before) ≡ false
  pub active : is_paused instance table before ≡ false
  pub e : Emitted
  pub emission : emitted before request ≡ Some e
  pub t : HistTrigger
  pub there : Contains (hist_triggers instance before) t
  pub counts : t.table ≡ table
  pub met : meets t e ≡ true
  pub shown : row ≡ counted_hit t e

-- each row that a table counted is that of such an emission
abbrev pub CountedRowsAreOfEmissions : Type 0
CountedRowsAreOfEmissions =
    (instance : Option (List ℕ)) (table : ℕ) (past : List Request) → All (IsRowOfEmission instance table past) (hits_of instance table past)

-- When an emission comes, a table that is not paused counts, after the rows that were counted before it, just its row for each of the table's triggers
-- that meets it, in the order in which these were attached. Whether the emission was recorded is not asked: its event may be disabled, the event's
-- filter may not hold, recording may be off.
abbrev pub EmissionsAreCountedOnce : Type 0
EmissionsAreCountedOnce =
    (instance : Option (List ℕ)) (table : ℕ) (past : List Request) (request : Request) (e : Emitted)
    → emitted past request ≡ Some e → is_paused instance table past ≡ false
    → hits_of instance table (request ∷ past) ≡ hits_of instance table past ++ rows_met (λ t. t.table == table) (hist_triggers instance past) (Some e)

-- and until the table is emptied they stay counted there, whatever else is done
abbrev pub EmissionsAreCounted : Type 0
EmissionsAreCounted =
    (instance : Option (List ℕ)) (table : ℕ) (later : List Request) (request : Request) (before : List Request) (e : Emitted)
    → emitted before request ≡ Some e → is_paused instance table before ≡ false → some_later (clears instance table) later (request ∷ before) ≡ false
    → (rest : List Hit) × (hits_of instance table (later ++ request ∷ before)
    ≡ hits_of instance table before ++ rows_met (λ t. t.table == table) (hist_triggers instance before) (Some e) ++ rest)

-- an emission that none of its triggers meets leaves the rows of a table as they are
abbrev pub UnmetEmissionsAreNotCounted : Type 0
UnmetEmissionsAreNotCounted =
    (instance : Option (List ℕ)) (table : ℕ) (past : List Request) (request : Request) (e : Emitted) → emitted past request ≡ Some e
    → All (λ t. t.table ≡ table → meets t e ≡ false) (hist_triggers instance past)
    → hits_of instance table (request ∷ past) ≡ hits_of instance table past

-- ---- the same from the whole history

-- a request of a history, with those that are done after it and those that were done before it
pub record Moment : Type 0 where
  pub later : List Request
  pub request : Request
  pub before : List Request

-- each request of a history, the oldest first, where these are done after all of it
abbrev pub moments : List Request → List Request → List Moment
moments later [] = []
moments later (request ∷ past) = moments (later ++ request ∷ []) past ++ record { later = later; request = request; before = past } ∷ []

-- whether a table counts then for good: it was made before, it is not paused, and no later request empties it
abbrev pub counts_at : Option (List ℕ) → ℕ → Moment → Bool
counts_at instance table m =
    nat_lt table (length m.before) && (not (is_paused instance table m.before)
    && not (some_later (clears instance table) m.later (m.request ∷ m.before)))

-- whether a trigger counts in the table of a trigger with this name: it has the name too; or, where that one has none, it is that one, of this number
abbrev pub counts_with : Option (List ℕ) → ℕ → HistTrigger → Bool
counts_with None number t = t.number == number
counts_with (Some name) number t = is_name_of (Some name) t.spec.name

-- the rows of the emissions that came while a trigger's table counted, each once for every trigger of its name that met it, in order of emission
abbrev pub rows_of_name : Option (List ℕ) → HistTrigger → List Request → List Hit
rows_of_name instance t past =
    flat_map (λ m. rows_met (counts_with t.spec.name t.number) (hist_triggers instance m.before) (emitted m.before m.request))
    (filter (counts_at instance t.table) (moments [] past))

-- These are the rows of the trigger's table, and its entries and totals are what they come to.
abbrev pub NamedTablesAreUnions : Type 0
NamedTablesAreUnions =
    (instance : Option (List ℕ)) (past : List Request)
    → All (λ t. (hits_of instance t.table past ≡ rows_of_name instance t past)
    × (table_of instance t past ≡ grouped t.spec (rows_of_name instance t past))) (hist_triggers instance past)
