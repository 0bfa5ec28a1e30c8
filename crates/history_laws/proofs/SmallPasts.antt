-- The small pasts, computed. Each definition that they need and that doesn't unfold by itself is named once.
use Rattle.std.proofs.Common.{refl}
use Rattle.std.specs.Fmt.{digits}
use Rattle.trace_record.specs.Record.{head_bytes, head_of, timestamp}
use Rattle.page_ring.specs.Account.{account, readings_of, stats_of}
use Rattle.page_ring.specs.Cut.{cut}
use Rattle.trace_buffer.specs.Orders.{merged}
use Rattle.trace_format.specs.Reading.{step, definition_of}
use Rattle.trace_format.specs.Rows.{value_of, row_of}
use Rattle.trace_command.specs.Paths.{top_file, option_file, events_file, system_file, cpu_file, event_file, mount_point, below_mount_point, address_of, instance_of}
use Rattle.tracer_specification.specs.Emissions.{record_bytes, filter_holds}
use Rattle.tracer_specification.specs.Settings.{written_flag, written_tracing}
use Rattle.tracer_specification.specs.Snapshots.{written_snapshot}
use Rattle.history_laws.specs.SmallPasts.{AreRead, IsEmptied}

pub is-emptied : IsEmptied
unfolding digits head_bytes head_of timestamp account readings_of stats_of cut merged step definition_of value_of row_of top_file option_file events_file
    system_file cpu_file event_file mount_point below_mount_point address_of instance_of record_bytes filter_holds written_flag written_tracing written_snapshot
is-emptied = record { recorded = refl; was = refl; counts = refl; since = refl; shown = refl; read = refl }

pub are-read : AreRead
unfolding digits head_bytes head_of timestamp account readings_of stats_of cut merged step definition_of value_of row_of top_file option_file events_file
    system_file cpu_file event_file mount_point below_mount_point address_of instance_of record_bytes filter_holds written_flag written_tracing written_snapshot
are-read = record { by_two = refl; by_one = refl; left = refl }
