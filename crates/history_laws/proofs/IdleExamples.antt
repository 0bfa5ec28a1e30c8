-- The small pasts of idle and wanted events, computed. Each definition that is needed and that doesn't unfold by itself is named once.
use Rattle.std.proofs.Common.{refl}
use Rattle.std.specs.Fmt.{digits}
use Rattle.trace_format.specs.Reading.{step, definition_of}
use Rattle.trace_format.specs.Rows.{value_of, row_of}
use Rattle.trace_format.specs.Operands.{operand_named}
use Rattle.trace_filter.specs.Filters.{answer_of}
use Rattle.trace_filter.specs.Syntax.{step as filter_step}
use Rattle.trace_filter.specs.Tokens.{piece_of}
use Rattle.trace_filter.specs.Values.{holds_of}
use Rattle.trace_trigger.specs.HistLists.{lists_of}
use Rattle.trace_trigger.specs.HistParts.{attributes_of, tail_of}
use Rattle.trace_trigger.specs.HistOffsets.{attribute_mistakes, name_mistakes, key_mistakes, value_mistakes, sort_mistakes, mistakes}
use Rattle.trace_trigger.specs.Frames.{filter_of}
use Rattle.trace_trigger.specs.HistTexts.{read_of, spec_from, spec_of}
use Rattle.trace_trigger.specs.FittingSpecs.{is_fitting}
use Rattle.trace_trigger.specs.SameSpecs.{is_same}
use Rattle.trace_trigger.specs.TriggerTexts.{count_of, condition_of, snapshot_said, said_of}
use Rattle.trace_trigger.specs.TriggerTexts.{snapshot_trigger_of as said_trigger}
use Rattle.trace_command.specs.Paths.{top_file, option_file, events_file, system_file, cpu_file, event_file, mount_point, below_mount_point, address_of, instance_of}
use Rattle.tracer_specification.specs.Settings.{written_flag, clears_filter, can_take, written_tracing}
use Rattle.history_laws.specs.IdleExamples.{ActiveHistsWant, InstancesWant, SharedTablesPause, SwitchesDecide, TimesLeftWant}

pub switches-decide : SwitchesDecide
unfolding step definition_of top_file option_file events_file system_file cpu_file event_file mount_point below_mount_point address_of instance_of written_flag
    written_tracing clears_filter can_take
switches-decide = record { disabled = refl; enabled = refl; off = refl; on_again = refl; filtered = refl }

pub active-hists-want : ActiveHistsWant
unfolding step definition_of operand_named answer_of filter_step piece_of lists_of attributes_of tail_of attribute_mistakes name_mistakes key_mistakes
    value_mistakes sort_mistakes mistakes filter_of read_of spec_from spec_of is_fitting is_same count_of condition_of snapshot_said said_of said_trigger
    top_file option_file events_file system_file cpu_file event_file mount_point below_mount_point address_of instance_of written_flag written_tracing digits
active-hists-want = record { active = refl; paused = refl; continued = refl; beside = refl; untraced = refl; removed = refl }

pub shared-tables-pause : SharedTablesPause
unfolding step definition_of operand_named answer_of filter_step piece_of lists_of attributes_of tail_of attribute_mistakes name_mistakes key_mistakes
    value_mistakes sort_mistakes mistakes filter_of read_of spec_from spec_of is_fitting is_same count_of condition_of snapshot_said said_of said_trigger
    top_file option_file events_file system_file cpu_file event_file mount_point below_mount_point address_of instance_of written_flag written_tracing digits
shared-tables-pause = record { active = refl; paused = refl; continued = refl }

pub times-left-want : TimesLeftWant
unfolding step definition_of value_of row_of operand_named answer_of filter_step piece_of holds_of count_of condition_of snapshot_said said_of said_trigger
    filter_of top_file option_file events_file system_file cpu_file event_file mount_point below_mount_point address_of instance_of written_flag
    written_tracing digits
times-left-want = record { one_left = refl; none_left = refl; of_two = refl; unlimited = refl; not_met = refl; untraced = refl; removed = refl }

pub instances-want : InstancesWant
unfolding step definition_of top_file option_file events_file system_file cpu_file event_file mount_point below_mount_point address_of instance_of written_flag
    written_tracing
instances-want = record { there = refl; removed = refl; made_again = refl; top_untraced = refl }
