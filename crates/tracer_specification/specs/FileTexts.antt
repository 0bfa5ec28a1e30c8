-- What the files of an instance show, by the requests done so far. The newest request comes first. Which file shows which is in History.antt.
use Rattle.std.specs.Prelude.{ℕ, nat_lt, Bool, true, false, not, if◌then◌else◌, List, [], ◌∷◌, ◌++◌, map, flat_map, Option, Some, None, codes}
use Rattle.std.specs.List.{filter, list_all, list_any}
use Rattle.std.specs.Option.{option_map}
use Rattle.trace_buffer.specs.Families.{cpu_stats}
use Rattle.trace_filter.specs.Filters.{Parsed}
use Rattle.trace_lex.specs.Blanks.{trimmed}
use Rattle.trace_format.specs.Definitions.{Definition}
use Rattle.record_text.specs.BufferText.{trace_text, pipe_text}
use Rattle.record_text.specs.DeclarationText.{declaration_text}
use Rattle.record_text.specs.FormatText.{format_text}
use Rattle.trace_text.specs.HistText.{hist_text}
use Rattle.record_text.specs.SnapshotText.{snapshot_text}
use Rattle.record_text.specs.StatsText.{stats_text}
use Rattle.trace_text.specs.TriggerText.{trigger_text}
use Rattle.trace_text.specs.TriggerText as texts
use Rattle.trace_command.specs.Requests.{Request}
use Rattle.tracer_specification.specs.Settings.{NumberedEvent, declared_events, now_of}
use Rattle.tracer_specification.specs.Rings.{rings, spare_rings, pipe_read, cpu_pipe_read}
use Rattle.tracer_specification.specs.Triggers.{Trigger, snapshot_trigger_of, times_left}
use Rattle.tracer_specification.specs.HistTriggers.{HistTrigger, hists_of, is_paused, table_of}
use Rattle.trace_command.specs.declared.command.Config.{Config}

-- the text of a switch
unfoldable pub flag_text : Bool → List ℕ
flag_text flag = if flag then codes "1\n" else codes "0\n"

-- the statistics of a CPU's ring
unfoldable pub cpu_stats_text : Config → Option (List ℕ) → List Request → ℕ → List ℕ
cpu_stats_text g instance past cpu = stats_text (cpu_stats g.pages g.page_bytes (rings g instance past) cpu) (now_of past)

-- the trace of one CPU or of all
unfoldable pub shown_trace : Config → Option (List ℕ) → List Request → Option ℕ → List ℕ
shown_trace g instance past cpu = trace_text (declared_events past) g.pages g.page_bytes (rings g instance past) cpu

-- what a read of the pipe of all CPUs shows: the records that it consumes
unfoldable pub shown_pipe : Config → Option (List ℕ) → List Request → Option ℕ → List ℕ
shown_pipe g instance past limit = pipe_text (declared_events past) (pipe_read g limit (rings g instance past)).taken

-- and a read of a CPU's pipe
unfoldable pub shown_cpu_pipe : Config → Option (List ℕ) → List Request → ℕ → Option ℕ → List ℕ
shown_cpu_pipe g instance past cpu limit = pipe_text (declared_events past) (cpu_pipe_read g cpu limit (rings g instance past)).taken

-- what `snapshot` shows: the spare's records
unfoldable pub shown_snapshot : Config → Option (List ℕ) → List Request → List ℕ
shown_snapshot g instance past = snapshot_text (declared_events past) g.pages g.page_bytes (spare_rings g instance past)

-- the word of the option
unfoldable pub option_text : Bool → List ℕ
option_text flag = if flag then codes "overwrite\n" else codes "nooverwrite\n"

-- the declarations, one on each line
unfoldable pub declarations_text : List Request → List ℕ
declarations_text past = flat_map declaration_text (declared_events past)

-- the text of all switches, from whether none is on and whether some is off
unfoldable pub mixture_text : Bool → Bool → List ℕ
mixture_text true false = codes "?\n"
mixture_text true true = codes "0\n"
mixture_text false false = codes "1\n"
mixture_text false true = codes "X\n"

abbrev pub switches_text : List Bool → List ℕ
switches_text flags = mixture_text (list_all not flags) (list_any not flags)

-- the text of an event's filter, without the blanks at its ends, or `none`
unfoldable pub filter_text : Option (List ℕ) → List ℕ
filter_text None = codes "none\n"
filter_text (Some text) = trimmed text ++ codes "\n"

-- the format of an event; its name is one that was declared
abbrev pub format_of_event : Option NumberedEvent → List ℕ
format_of_event None = []
format_of_event (Some k) = format_text k.id k.event

-- a trigger for snapshots as its file shows it: how often it acts from now on, and its filter
abbrev pub shown_trigger : List Request → Definition → Trigger → texts.Trigger
shown_trigger past event t = texts.Snapshot (times_left event t past) (option_map (λ (filter : Parsed). filter.text) t.spec.filter)

-- a hist trigger as its files show it
abbrev pub shown_hist : Option (List ℕ) → List Request → HistTrigger → texts.Trigger
shown_hist instance past t = texts.Hist (record {
  spec = t.spec;
  paused = is_paused instance t.table past;
  table = table_of instance t past;
  rules = t.spec.sort_sources;
})

-- triggers in the order in which they were attached: the hist triggers that are older than the one for snapshots, that one, and the newer ones
abbrev pub in_order : Option (List ℕ) → List Request → Definition → Option Trigger → List HistTrigger → List texts.Trigger
in_order instance past event None hists = map (shown_hist instance past) hists
in_order instance past event (Some t) hists =
    map (shown_hist instance past) (filter (λ h. nat_lt h.number t.number) hists)
    ++ shown_trigger past event t ∷ map (shown_hist instance past) (filter (λ h. not (nat_lt h.number t.number)) hists)

-- the triggers of an event; its name is one that was declared
abbrev pub triggers_of_event : Option (List ℕ) → List Request → Option NumberedEvent → List ℕ
triggers_of_event instance past None = []
triggers_of_event instance past (Some k) =
    trigger_text (in_order instance past k.event (snapshot_trigger_of instance k.event past) (hists_of instance k.event past))

-- its histograms
abbrev pub hists_of_event : Option (List ℕ) → List Request → Option NumberedEvent → List ℕ
hists_of_event instance past None = []
hists_of_event instance past (Some k) = hist_text (map (shown_hist instance past) (hists_of instance k.event past))
