-- The worked examples, computed. Each definition that an answer needs and that doesn't unfold by itself is named once.
use Rattle.std.proofs.Common.{refl}
use Rattle.trace_record.specs.Record.{head_bytes, head_of, timestamp}
use Rattle.page_ring.specs.Account.{account, readings_of, stats_of}
use Rattle.page_ring.specs.Cut.{cut}
use Rattle.trace_buffer.specs.Orders.{merged}
use Rattle.trace_format.specs.Reading.{step, definition_of}
use Rattle.trace_format.specs.Rows.{value_of, row_of}
use Rattle.trace_filter.specs.Filters.{answer_of}
use Rattle.trace_filter.specs.Globs.{part_of}
use Rattle.trace_format.specs.Operands.{operand_named}
use Rattle.trace_filter.specs.Syntax.{step as filter_step}
use Rattle.trace_filter.specs.Tokens.{piece_of}
use Rattle.trace_filter.specs.Values.{holds_of}
use Rattle.record_text.specs.BufferText.{taken_lines, pipe_text, trace_text}
use Rattle.record_text.specs.DeclarationText.{declaration_text}
use Rattle.record_text.specs.FieldText.{field_text}
use Rattle.record_text.specs.FormatText.{layout_line, field_line, common_pid_line, format_text}
use Rattle.record_text.specs.RecordText.{line_start, cell_text, row_line, record_line}
use Rattle.record_text.specs.SnapshotText.{freed_line, snapshot_text}
use Rattle.record_text.specs.StatsText.{stats_line, stats_text}
use Rattle.record_text.specs.TraceText.{lost_line, trace_title, trace_head}
use Rattle.trace_text.specs.TriggerText.{trigger_line, available_triggers, trigger_text}
use Rattle.trace_trigger.specs.Frames.{filter_of}
use Rattle.trace_trigger.specs.TriggerTexts.{count_of, condition_of, snapshot_said, said_of}
use Rattle.trace_trigger.specs.TriggerTexts.{snapshot_trigger_of as said_trigger}
use Rattle.trace_command.specs.Paths.{top_file, option_file, events_file, system_file, cpu_file, event_file, mount_point, below_mount_point, address_of, instance_of}
use Rattle.tracer_specification.specs.FileTexts.{flag_text, cpu_stats_text, shown_trace, shown_pipe, shown_cpu_pipe, shown_snapshot, option_text, declarations_text, mixture_text, filter_text}
use Rattle.tracer_specification.specs.History.{emission_answer, declaration_answer, switch_answer, filter_answer, filter_of_all_answer, option_answer, tracing_answer, snapshot_answer, trigger_answer, named_answer, answer}
use Rattle.tracer_specification.specs.Emissions.{record_bytes, filter_holds}
use Rattle.tracer_specification.specs.Settings.{written_flag, clears_filter, can_take, written_option, written_tracing}
use Rattle.tracer_specification.specs.Snapshots.{written_snapshot}
use Rattle.std.specs.Fmt.{digits}
use Rattle.tracer_specification.specs.Examples.{small, IsAnswered, merged_reads, instances, instance_made_again, recording_off, lost_line_after_overrun, precedence_and_kept_filter}
use Rattle.tracer_specification.specs.SnapshotExamples.{two_snapshots, counted_trigger, unlimited_trigger, removed_trigger, trigger_of_disabled_event, refused_triggers, sides_of_an_instance}

pub record AreAnswered : Type 0 where
  pub merged : IsAnswered (small 2) merged_reads
  pub instances : IsAnswered (small 1) instances
  pub made_again : IsAnswered (small 1) instance_made_again
  pub recording : IsAnswered (small 1) recording_off
  pub lost : IsAnswered (small 1) lost_line_after_overrun
  pub filters : IsAnswered (small 1) precedence_and_kept_filter
  pub snapshots : IsAnswered (small 1) two_snapshots
  pub counted : IsAnswered (small 1) counted_trigger
  pub unlimited : IsAnswered (small 1) unlimited_trigger
  pub removed : IsAnswered (small 1) removed_trigger
  pub disabled : IsAnswered (small 1) trigger_of_disabled_event
  pub refused : IsAnswered (small 1) refused_triggers
  pub sides : IsAnswered (small 1) sides_of_an_instance

pub examples-are_answered : AreAnswered
unfolding head_bytes head_of timestamp account readings_of stats_of cut merged step definition_of value_of row_of answer_of part_of
    operand_named filter_step piece_of holds_of taken_lines pipe_text trace_text declaration_text field_text layout_line field_line
    common_pid_line format_text line_start cell_text row_line record_line stats_line stats_text lost_line trace_title trace_head
    top_file option_file events_file system_file cpu_file event_file mount_point below_mount_point address_of instance_of
    emission_answer declaration_answer switch_answer filter_answer filter_of_all_answer option_answer tracing_answer flag_text
    cpu_stats_text shown_trace shown_pipe shown_cpu_pipe option_text declarations_text mixture_text filter_text named_answer answer
    record_bytes filter_holds written_flag clears_filter can_take written_option written_tracing digits
    snapshot_answer trigger_answer shown_snapshot written_snapshot freed_line snapshot_text trigger_line available_triggers trigger_text count_of condition_of filter_of said_trigger snapshot_said said_of
examples-are_answered = record {
  merged = refl;
  instances = refl;
  made_again = refl;
  recording = refl;
  lost = refl;
  filters = refl;
  snapshots = refl;
  counted = refl;
  unlimited = refl;
  removed = refl;
  disabled = refl;
  refused = refl;
  sides = refl;
}
