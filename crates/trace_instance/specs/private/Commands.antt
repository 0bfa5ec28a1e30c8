-- Values and filters that are written, and triggers as their files show them.
use Rattle.std.specs.Prelude.{◌≡◌, ℕ, ◌++◌, Bool, false, List, [], Option, Some, None, Result, Ok, Err, codes}
use Rattle.std.specs.Option.{option_map}
use Rattle.trace_filter.specs.Filters.{Parsed, parsed_of}
use Rattle.trace_format.specs.Definitions.{Definition}
use Rattle.trace_command.specs.Refusals.{IsRefusal}
use Rattle.trace_command.specs.declared.command.Reply.TheVariants.{Done}
use Rattle.trace_command.specs.declared.refusal.Refusal.{Refusal}
use Rattle.trace_command.specs.declared.refusal.Refusal.TheVariants.{BadValue}
use Rattle.tracer_specification.specs.History.{filter_answer}
use Rattle.tracer_specification.specs.Settings.{written_filter}
use Rattle.trace_instance.specs.KeptHists.{KeptTable, kept_at}
use Rattle.trace_instance.specs.declared.hists.AttachedHist.{AttachedHist}
use Rattle.trace_instance.specs.declared.tables.Table.{Table}
use Rattle.trace_hist.specs.Groups.{grouped}
use Rattle.trace_trigger.specs.HistSpecs.{SpecSeen}
use Rattle.trace_instance.specs.declared.trigger.EventTrigger.{EventTrigger}
use Rattle.trace_instance.specs.declared.trigger.EventTrigger.TheVariants.{Snapshot, Hist}
use Rattle.trace_instance.specs.declared.trigger.AttachedSnapshot.{AttachedSnapshot}
use Rattle.trace_text.specs.TriggerText as texts

-- a value that has to be one
abbrev pub needed_flag : Option Bool → Result Bool Refusal
needed_flag (Some flag) = Ok flag
needed_flag None = Err BadValue

-- the filter of an event that a text writes, or why the event can't take it
abbrev pub IsWrittenFilter : List ℕ → Definition → Result (Option Parsed) Refusal → Type 0
IsWrittenFilter text event (Ok kept) = (filter_answer text event ≡ Ok Done) × (kept ≡ option_map (parsed_of event) (written_filter text))
IsWrittenFilter text event (Err refusal) = IsRefusal refusal (filter_answer text event)

-- the text of a kept filter
unfoldable pub shown_filter : Option Parsed → List ℕ
shown_filter None = codes "none\n"
shown_filter (Some kept) = kept.text ++ codes "\n"

-- a kept trigger as its file shows it
abbrev pub shown_kept : AttachedSnapshot → texts.Trigger
shown_kept t = texts.Snapshot t.left (option_map (λ (filter : Parsed). filter.text) t.filter)

-- a hist trigger that says this, with its table, as its files show it. (Each trigger has a table.)
abbrev pub shown_with : SpecSeen → Option KeptTable → texts.ShownHist
shown_with spec None = record { spec = spec; rules = spec.sort_sources; paused = false; table = grouped spec [] }
shown_with spec (Some k) = record { spec = spec; rules = k.spec.sort_sources; paused = k.paused; table = k.table }

-- one that is kept, with these tables
abbrev pub shown_attached : List Table → AttachedHist → texts.Trigger
shown_attached tables a = texts.Hist (shown_with a.spec (kept_at a.table tables))

-- a trigger of either kind, with these tables
abbrev pub shown_of : List Table → EventTrigger → texts.Trigger
shown_of tables (Snapshot t) = shown_kept t
shown_of tables (Hist a) = shown_attached tables a
