-- The worked histograms, computed. Each definition that a text needs and that doesn't unfold by itself is named once.
use Rattle.std.proofs.Common.{refl}
use Rattle.std.specs.Fmt.{digits}
use Rattle.trace_format.specs.Operands.{operand_named}
use Rattle.trace_trigger.specs.HistParts.{attributes_of, tail_of}
use Rattle.trace_trigger.specs.HistLists.{lists_of}
use Rattle.trace_trigger.specs.HistOffsets.{attribute_mistakes, name_mistakes, key_mistakes, value_mistakes, sort_mistakes, mistakes}
use Rattle.trace_trigger.specs.Frames.{filter_of}
use Rattle.trace_trigger.specs.HistTexts.{read_of, spec_from, spec_of}
use Rattle.hist_entries.specs.Buckets.{log2_of}
use Rattle.hist_entries.specs.PrintOrder.{printed}
use Rattle.trace_hist.specs.Groups.{grouped}
use Rattle.trace_text.specs.EntryText.{entry_line}
use Rattle.trace_text.specs.HistText.{hist_head, total_line, totals_text, one_hist}
use Rattle.trace_text.specs.TriggerText.{lists_text, hist_line}
use Rattle.trace_text.specs.HistTextExamples.{IsShown, sums_and_ties, two_sort_keys, sorted_by_sums, full_table, powers, ranges, hexadecimals}

pub record AreShown : Type 0 where
  pub sums : IsShown sums_and_ties
  pub keys : IsShown two_sort_keys
  pub by_sums : IsShown sorted_by_sums
  pub full : IsShown full_table
  pub powers : IsShown powers
  pub ranges : IsShown ranges
  pub hex : IsShown hexadecimals

pub examples-are_shown : AreShown
unfolding digits operand_named attributes_of tail_of lists_of attribute_mistakes name_mistakes key_mistakes value_mistakes
    sort_mistakes mistakes read_of filter_of spec_from spec_of log2_of printed grouped entry_line hist_head total_line totals_text one_hist
    lists_text hist_line
examples-are_shown = record {
  sums = refl;
  keys = refl;
  by_sums = refl;
  full = refl;
  powers = refl;
  ranges = refl;
  hex = refl;
}
