-- The texts of an event's `trigger` file (events.rst, "Event triggers"): a line for each trigger, or the kinds of triggers if there is none. How a
-- line is laid out, and which kinds there are, was chosen by this project.
use Rattle.std.specs.Prelude.{ℕ, Bool, if◌then◌else◌, List, [], ◌∷◌, ◌++◌, Option, None, Some, codes}
use Rattle.std.specs.Fmt.{decimal}
use Rattle.std.specs.List.{flat_map, join_by}
use Rattle.trace_hist.specs.Groups.{Table}
use Rattle.trace_format.specs.declared.key.Key.{Key}
use Rattle.trace_trigger.specs.HistSpecs.{SpecSeen}
use Rattle.trace_trigger.specs.SameSpecs.{filter_text}
use Rattle.trace_format.specs.declared.sort_rule.SortRule.{SortRule}
use Rattle.trace_trigger.specs.declared.spec.SortKey.{SortKey}

-- a hist trigger as its files show it: what it says and whether it is paused; its entries and totals, and what the entries are printed by
pub record ShownHist : Type 0 where
  pub spec : SpecSeen
  pub paused : Bool
  pub table : Table
  pub rules : List SortRule

-- a trigger as its file shows it: one that takes snapshots, with how many it may still take (no number means no end), and the text of its
-- filter, if it has one; or a hist trigger
pub data Trigger : Type 0 where
  Snapshot : Option ℕ → Option (List ℕ) → Trigger
  Hist : ShownHist → Trigger

-- how many snapshots are left
abbrev pub left_text : Option ℕ → List ℕ
left_text None = codes "unlimited"
left_text (Some n) = codes "count=" ++ decimal n

-- the condition
abbrev pub condition_text : Option (List ℕ) → List ℕ
condition_text None = []
condition_text (Some filter) = codes " if " ++ filter

-- ---- hist triggers

-- names with a `,` between each two
abbrev pub with_commas : List (List ℕ) → List ℕ
with_commas names = join_by (λ name. name) (codes ",") names

-- keys as written, with a `,` between each two
abbrev pub keys_text : List Key → List ℕ
keys_text keys = join_by (λ (key : Key). key.written) (codes ",") keys

-- a sort key: ascending ones have no word for it
abbrev pub sort_text : SortKey → List ℕ
sort_text key = if key.descending then key.name ++ codes ".descending" else key.name

abbrev pub state_text : Bool → List ℕ
state_text paused = if paused then codes " [paused]" else codes " [active]"

-- the name of a hist trigger's table, if it has one
abbrev pub name_text : Option (List ℕ) → List ℕ
name_text None = []
name_text (Some name) = codes "name=" ++ name ++ codes ":"

-- that name, and the lists of a hist trigger, with `hitcount` first among its values
unfoldable pub lists_text : SpecSeen → List ℕ
lists_text spec =
    codes "hist:" ++ name_text spec.name ++ codes "keys=" ++ keys_text spec.keys ++ codes ":vals=" ++ with_commas (codes "hitcount" ∷ spec.values)
    ++ codes ":sort=" ++ join_by sort_text (codes ",") spec.sort

-- what a hist trigger says, and whether it is paused
unfoldable pub hist_line : SpecSeen → Bool → List ℕ
hist_line spec paused =
    lists_text spec ++ codes ":size=" ++ decimal spec.size ++ condition_text (filter_text spec.filter) ++ state_text paused

-- ---- the file

unfoldable pub trigger_line : Trigger → List ℕ
trigger_line (Snapshot left filter) = codes "snapshot:" ++ left_text left ++ condition_text filter ++ codes "\n"
trigger_line (Hist shown) = hist_line shown.spec shown.paused ++ codes "\n"

-- what is shown of an event without a trigger
unfoldable pub available_triggers : List ℕ
available_triggers = codes "# Available triggers:\n# hist snapshot\n"

-- a line for each trigger, in the order in which they were attached
unfoldable pub trigger_text : List Trigger → List ℕ
trigger_text [] = available_triggers
trigger_text (trigger ∷ triggers) = flat_map trigger_line (trigger ∷ triggers)
