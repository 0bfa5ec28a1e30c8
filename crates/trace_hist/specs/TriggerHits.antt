-- What a hist trigger counts of an emission: the cells of its key, and the numbers that it sums (histogram.rst, "hist triggers").
use Rattle.std.specs.Prelude.{map}
use Rattle.trace_format.specs.Operands.{Emission}
use Rattle.trace_trigger.specs.HistSpecs.{SpecSeen}
use Rattle.hist_entries.specs.Hits.{Hit, key_cell, number_at}

abbrev pub hit_of : SpecSeen → Emission → Hit
hit_of spec emission = record {
  key = map (key_cell emission) spec.keys;
  numbers = map (number_at emission) spec.value_sources;
}
