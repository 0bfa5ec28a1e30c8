-- The worked examples of hist triggers, computed. Each definition that an answer needs and that doesn't unfold by itself is named once.
use Rattle.std.proofs.Common.{refl}
use Rattle.std.specs.Fmt.{digits}
use Rattle.trace_record.specs.Record.{head_bytes, head_of, timestamp}
use Rattle.page_ring.specs.Account.{account, readings_of, stats_of}
use Rattle.page_ring.specs.Cut.{cut}
use Rattle.trace_format.specs.Reading.{step, definition_of}
use Rattle.trace_format.specs.Rows.{value_of, row_of}
use Rattle.trace_filter.specs.Filters.{answer_of}
use Rattle.trace_format.specs.Operands.{operand_named}
use Rattle.trace_filter.specs.Syntax.{step as filter_step}
use Rattle.trace_filter.specs.Tokens.{piece_of}
use Rattle.trace_filter.specs.Values.{holds_of}
use Rattle.trace_hist.specs.Groups.{grouped}
use Rattle.trace_trigger.specs.HistLists.{lists_of}
use Rattle.trace_trigger.specs.HistParts.{attributes_of, tail_of}
use Rattle.trace_trigger.specs.HistOffsets.{attribute_mistakes, name_mistakes, key_mistakes, value_mistakes, sort_mistakes, mistakes}
use Rattle.trace_trigger.specs.Frames.{filter_of}
use Rattle.trace_trigger.specs.HistTexts.{read_of, spec_from, spec_of}
use Rattle.hist_entries.specs.PrintOrder.{printed}
use Rattle.trace_trigger.specs.FittingSpecs.{is_fitting}
use Rattle.trace_trigger.specs.SameSpecs.{is_same}
use Rattle.trace_text.specs.EntryText.{entry_line}
use Rattle.trace_text.specs.HistText.{hist_head, total_line, totals_text, one_hist, hist_text}
use Rattle.record_text.specs.SnapshotText.{freed_line, snapshot_text}
use Rattle.record_text.specs.StatsText.{stats_line, stats_text}
use Rattle.trace_text.specs.TriggerText.{lists_text, hist_line, trigger_line, available_triggers, trigger_text}
use Rattle.trace_trigger.specs.TriggerTexts.{count_of, condition_of, snapshot_said, said_of}
use Rattle.trace_trigger.specs.TriggerTexts.{snapshot_trigger_of as said_trigger}
use Rattle.trace_command.specs.Paths.{top_file, option_file, events_file, system_file, cpu_file, event_file, mount_point, below_mount_point, address_of, instance_of}
use Rattle.tracer_specification.specs.FileTexts.{flag_text, cpu_stats_text, shown_snapshot}
use Rattle.tracer_specification.specs.History.{emission_answer, declaration_answer, switch_answer, filter_answer, tracing_answer, snapshot_answer, trigger_answer, named_answer, answer}
use Rattle.tracer_specification.specs.Emissions.{record_bytes, filter_holds}
use Rattle.tracer_specification.specs.Settings.{written_flag, clears_filter, can_take, written_option, written_tracing}
use Rattle.tracer_specification.specs.Snapshots.{written_snapshot}
use Rattle.tracer_specification.specs.Examples.{small, IsAnswered}
use Rattle.tracer_specification.specs.HistTriggerExamples.{shown_triggers, refused_hist_triggers, paused_and_cleared, counted_unrecorded, histograms_of_an_instance, removed_hist_triggers, hist_triggers_anew, four_triggers, triggers_of_two_events, shared_table, table_of_one_event, refused_by_two_rules}

pub record AreAnswered : Type 0 where
  pub shown : IsAnswered (small 1) shown_triggers
  pub refused : IsAnswered (small 1) refused_hist_triggers
  pub paused : IsAnswered (small 1) paused_and_cleared
  pub unrecorded : IsAnswered (small 1) counted_unrecorded
  pub instance : IsAnswered (small 1) histograms_of_an_instance
  pub removed : IsAnswered (small 1) removed_hist_triggers
  pub anew : IsAnswered (small 1) hist_triggers_anew
  pub four : IsAnswered (small 1) four_triggers
  pub events : IsAnswered (small 1) triggers_of_two_events
  pub table : IsAnswered (small 1) shared_table
  pub twice : IsAnswered (small 1) table_of_one_event
  pub order : IsAnswered (small 1) refused_by_two_rules

pub examples-are_answered : AreAnswered
unfolding head_bytes head_of timestamp account readings_of stats_of cut step definition_of value_of row_of answer_of operand_named filter_step
    piece_of holds_of grouped lists_of attributes_of tail_of attribute_mistakes name_mistakes key_mistakes value_mistakes sort_mistakes mistakes read_of
    filter_of spec_from spec_of printed is_same is_fitting entry_line hist_head total_line totals_text one_hist hist_text stats_line stats_text lists_text hist_line trigger_line available_triggers
    trigger_text count_of condition_of snapshot_said said_of said_trigger top_file option_file events_file system_file cpu_file event_file mount_point
    below_mount_point address_of instance_of emission_answer declaration_answer switch_answer filter_answer tracing_answer snapshot_answer trigger_answer
    flag_text cpu_stats_text named_answer answer record_bytes filter_holds written_flag clears_filter can_take written_option written_tracing
    written_snapshot digits shown_snapshot freed_line snapshot_text
examples-are_answered = record {
  shown = refl;
  refused = refl;
  paused = refl;
  unrecorded = refl;
  instance = refl;
  removed = refl;
  anew = refl;
  four = refl;
  events = refl;
  table = refl;
  twice = refl;
  order = refl;
}
