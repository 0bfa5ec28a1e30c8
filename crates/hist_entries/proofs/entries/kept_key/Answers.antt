use Rattle.std.proofs.Common.{◌∙◌, arith}
use Rattle.hist_entries.specs.Hits.{key_cell}
use Rattle.hist_entries.specs.KeptEntries.{datum_in}
use Rattle.hist_entries.proofs.Filling.{filled_more, filled_all}
use Rattle.hist_entries.proofs.entries.kept_key.Goals as goal

pub loop-key-preserved : goal.loop-key-preserved
loop-key-preserved c = record {
  room = omega (arith, c.loop-key.invariant.room, c.loop-key-test.true, c.push_reserved.ensures.len, c.push_reserved.ensures.capacity);
  filled = filled_more (key_cell c.args.emission.now) datum_in c.args.keys.now c.loop-key.key-index c.key-item.result _ _ _ c.loop-key-test.true c.key-item.is
      (c.in_ok-keep.ensures ∙ c.key_cell.ensures)
      c.push_reserved.ensures.items c.loop-key.invariant.filled;
}

pub returns : goal.returns
returns c = filled_all (key_cell c.args.emission.now) datum_in c.args.keys.now c.loop-key.key-index _ c.loop-key-test.false c.loop-key.invariant.filled
