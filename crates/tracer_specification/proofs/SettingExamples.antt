-- The worked examples of settings and refusals, computed. Each definition that an answer needs and that doesn't unfold by itself is named once.
use Rattle.std.proofs.Common.{refl}
use Rattle.std.specs.Fmt.{digits}
use Rattle.trace_record.specs.Record.{head_bytes, head_of, timestamp}
use Rattle.page_ring.specs.Account.{account, readings_of, stats_of}
use Rattle.page_ring.specs.Cut.{cut}
use Rattle.trace_buffer.specs.Orders.{merged}
use Rattle.trace_format.specs.Reading.{step, definition_of, cause_in}
use Rattle.trace_format.specs.Rows.{value_of, row_of}
use Rattle.trace_filter.specs.Filters.{answer_of}
use Rattle.trace_format.specs.Operands.{operand_named}
use Rattle.trace_filter.specs.Syntax.{step as filter_step}
use Rattle.trace_filter.specs.Tokens.{piece_of}
use Rattle.trace_filter.specs.Values.{holds_of}
use Rattle.record_text.specs.BufferText.{taken_lines, pipe_text, trace_text}
use Rattle.record_text.specs.DeclarationText.{declaration_text}
use Rattle.record_text.specs.FieldText.{field_text}
use Rattle.record_text.specs.FormatText.{layout_line, field_line, common_pid_line, format_text}
use Rattle.record_text.specs.RecordText.{line_start, cell_text, row_line, record_line}
use Rattle.record_text.specs.StatsText.{stats_line, stats_text}
use Rattle.record_text.specs.TraceText.{lost_line, trace_title, trace_head}
use Rattle.trace_command.specs.Paths.{top_file, option_file, events_file, system_file, cpu_file, event_file, mount_point, below_mount_point, address_of, instance_of}
use Rattle.tracer_specification.specs.FileTexts.{flag_text, cpu_stats_text, shown_trace, shown_pipe, shown_cpu_pipe, option_text, declarations_text, mixture_text, filter_text}
use Rattle.tracer_specification.specs.History.{emission_answer, declaration_answer, switch_answer, filter_answer, filter_of_all_answer, option_answer, tracing_answer, snapshot_answer, named_answer, answer}
use Rattle.tracer_specification.specs.Emissions.{record_bytes, filter_holds}
use Rattle.tracer_specification.specs.Settings.{written_flag, clears_filter, can_take, written_option, written_tracing}
use Rattle.tracer_specification.specs.Snapshots.{written_snapshot}
use Rattle.tracer_specification.specs.Examples.{small, IsAnswered}
use Rattle.tracer_specification.specs.SettingExamples.{switched, filters_of_all, options_of_an_instance, recorded_by_its_settings, emptied, refused_in_order, eight_instances, short, full_history}

pub record AreAnswered : Type 0 where
  pub switches : IsAnswered (small 1) switched
  pub filters : IsAnswered (small 1) filters_of_all
  pub options : IsAnswered (small 1) options_of_an_instance
  pub recorded : IsAnswered (small 1) recorded_by_its_settings
  pub emptied : IsAnswered (small 2) emptied
  pub refused : IsAnswered (small 1) refused_in_order
  pub instances : IsAnswered (small 1) eight_instances
  pub full : IsAnswered short full_history

pub examples-are_answered : AreAnswered
unfolding head_bytes head_of timestamp account readings_of stats_of cut merged step definition_of cause_in value_of row_of answer_of operand_named filter_step
    piece_of holds_of taken_lines pipe_text trace_text declaration_text field_text layout_line field_line common_pid_line
    format_text line_start cell_text row_line record_line stats_line stats_text
    lost_line trace_title trace_head top_file option_file events_file system_file cpu_file event_file mount_point below_mount_point address_of
    instance_of emission_answer declaration_answer switch_answer filter_answer filter_of_all_answer option_answer tracing_answer flag_text
    cpu_stats_text shown_trace shown_pipe shown_cpu_pipe option_text declarations_text mixture_text filter_text named_answer answer record_bytes
    filter_holds written_flag clears_filter can_take written_option written_tracing digits snapshot_answer written_snapshot
examples-are_answered = record {
  switches = refl;
  filters = refl;
  options = refl;
  recorded = refl;
  emptied = refl;
  refused = refl;
  instances = refl;
  full = refl;
}
