use Rattle.std.proofs.Common.{◌≡◌, ◌++◌, length, map, slice_get, Some, rules, arith}
use Rattle.std.proofs.lemmas.Grind.{common_steps}
use Rattle.std.proofs.lemmas.List.{length-map}
use Rattle.hist_entries.specs.KeptEntries.{datum_in, cells_in}
use Rattle.hist_entries.proofs.Copying.{copied-more}
use Rattle.hist_entries.proofs.entries_copy.copy_entries.Goals as goal

pub loop-index-preserved : goal.loop-index-preserved
loop-index-preserved c =
    let pairs = c.args.entries.now.entries in
    let key = c.in-Some.key.now in
    let tally = c.in-Some.tally.now in
    let at : Some (key, tally) ≡ slice_get pairs c.loop-index.index = search rules in
    let cells : c.push_key.new.self ≡ c.loop-index.cells ++ cells_in key = search rules in
    let sums : c.extend_from_slice.new.self.items ≡ c.loop-index.sums.items ++ tally.sums.items = search rules in
    let many : length (map datum_in key.items) ≡ length key.items = length-map key.items datum_in in
    record {
      room = omega (arith, c.loop-index.invariant.room, c.loop-index-test.true, c.push_reserved.ensures.len, c.push_reserved.ensures.capacity);
      copy = copied-more pairs c.loop-index.index (key, tally) at c.loop-index.heads.items _ _ c.loop-index.cells _ c.loop-index.sums.items _ c.loop-index.invariant.copy
          (record { cells_are = grind (arith, common_steps, many); count_is = search rules; sums_are = grind (arith, common_steps) })
          c.push_reserved.ensures.items cells sums;
    }
