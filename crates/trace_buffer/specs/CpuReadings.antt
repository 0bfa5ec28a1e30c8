-- Records as a clause reads them.
use Rattle.std.specs.Prelude.{ℕ}
use Rattle.page_ring.specs.Reading.{reading}
use Rattle.page_ring.specs.declared.rings.Kept.{Kept}
use Rattle.trace_buffer.specs.Families.{CpuReading, on_cpu}
use Rattle.trace_buffer.specs.declared.taken.Taken.{Taken}

-- a kept record with its CPU
abbrev pub kept_reading : ℕ × Kept → CpuReading
kept_reading p = on_cpu p.0 (reading p.1)

-- a record that a consuming read takes
abbrev pub taken_reading : Taken → CpuReading
taken_reading t = record { cpu = t.cpu; lost = t.lost; rec = t.rec.now }
