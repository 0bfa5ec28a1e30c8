-- The worked looks, computed. Each definition that one needs and that doesn't unfold by itself is named once.
use Rattle.std.proofs.Common.{[], refl}
use Rattle.trace_record.specs.Record.{head_bytes, head_of, timestamp}
use Rattle.page_ring.specs.Account.{account, has_waiting, readings_of}
use Rattle.page_ring.specs.Cut.{cut}
use Rattle.trace_format.specs.Reading.{step, definition_of}
use Rattle.trace_format.specs.Rows.{value_of, row_of}
use Rattle.trace_command.specs.Paths.{top_file, events_file, system_file, cpu_file, event_file, mount_point, below_mount_point, address_of, instance_of}
use Rattle.tracer_specification.specs.Emissions.{record_bytes, filter_holds}
use Rattle.tracer_specification.specs.Examples.{small}
use Rattle.tracer_specification.specs.History.{emission_answer, declaration_answer, switch_answer, snapshot_answer, named_answer, answer}
use Rattle.tracer_specification.specs.Settings.{written_flag}
use Rattle.tracer_specification.specs.Snapshots.{written_snapshot}
use Rattle.tracer_specification.specs.Waiting.{waiting}
use Rattle.tracer_specification.specs.WaitingExamples.{AreTold, looks}

-- one thing and others
infixr 5 ◌also◌
abbrev ◌also◌ : {A B : Type 0} → A → B → A × B
one also others = (one, others)

pub looks-are_told : AreTold (small 2) [] looks
unfolding head_bytes head_of timestamp account has_waiting readings_of cut step definition_of value_of row_of top_file events_file system_file cpu_file
    event_file mount_point below_mount_point address_of instance_of record_bytes filter_holds emission_answer declaration_answer switch_answer
    snapshot_answer named_answer answer written_flag written_snapshot waiting
looks-are_told =
    refl also refl also refl also refl also refl also refl also refl also refl also refl also refl also refl also refl also refl also refl also refl
    also refl also refl also refl also refl also refl also refl also refl also refl also refl also refl also refl also refl also refl also refl also tt
