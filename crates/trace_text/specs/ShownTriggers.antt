-- Triggers as a clause reads them.
use Rattle.std.specs.Prelude.{option_copied}
use Rattle.trace_trigger.specs.HistSpecs.{SpecSeen}
use Rattle.trace_hist.specs.Hists.{Seen}
use Rattle.trace_text.specs.TriggerText.{ShownHist, Trigger, Snapshot, Hist}
use Rattle.trace_text.specs.declared.trigger.Shown.{Shown}
use Rattle.trace_text.specs.declared.trigger.Shown.TheVariants as shown

-- a trigger and its histogram, by whose sort keys the entries are printed. Where triggers of one name share a histogram, their sort keys mean the same
abbrev pub shown_hist : SpecSeen → Seen → ShownHist
shown_hist spec hist = record { spec = spec; paused = hist.paused; table = hist.table; rules = hist.spec.sort_sources }

abbrev pub shown_trigger : Shown → Trigger
shown_trigger (shown.Hist spec hist) = Hist (shown_hist spec.now hist.now)
shown_trigger (shown.Snapshot left filter) = Snapshot left (option_copied filter)
