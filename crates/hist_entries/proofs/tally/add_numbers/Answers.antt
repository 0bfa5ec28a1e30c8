use Rattle.std.proofs.Common.{◌≡◌, ◌+◌, ◌<◌, pos, length, min, map, take, sym, ◌∙◌, subst, rules}
use Rattle.hist_entries.specs.RowPlaces.{most_rows}
use Rattle.hist_entries.specs.Hits.{number_at}
use Rattle.hist_entries.specs.Numbers.{IsFieldNumber, AreWithin}
use Rattle.hist_entries.proofs.SumLaws.{added-take, within-added, within-at, added-none, plus-fits, plus-is, added-more, numbers-more}
use Rattle.hist_entries.proofs.tally.add_numbers.Goals as goal

pub loop-index-init : goal.loop-index-init
loop-index-init c = record { sums = added-none c.args.sums.now; numbers = tt }

pub overflow_add-sums : goal.overflow_add-sums
overflow_add-sums c =
    let range : AreWithin (most_rows + 1) c.loop-index.sums =
    subst (AreWithin (most_rows + 1)) (sym c.loop-index.invariant.sums)
    (within-added most_rows c.args.sums.now (map (number_at c.args.emission.now) (take c.loop-index.index c.args.operands.now)) c.requires
    c.loop-index.invariant.numbers) in
    let inside : c.loop-index.index < length c.loop-index.sums = search rules in
    let number : IsFieldNumber c.value.result = subst IsFieldNumber (sym c.value.ensures.value) c.value.ensures.range in
    plus-fits _ _ (within-at (most_rows + 1) c.loop-index.sums c.loop-index.index (pos 0) range inside) number

pub loop-index-preserved : goal.loop-index-preserved
loop-index-preserved c =
    let emission = c.args.emission.now in
    let operands = c.args.operands.now in
    let k = c.loop-index.index in
    let range : AreWithin (most_rows + 1) c.loop-index.sums =
    subst (AreWithin (most_rows + 1)) (sym c.loop-index.invariant.sums)
    (within-added most_rows c.args.sums.now (map (number_at emission) (take k operands)) c.requires c.loop-index.invariant.numbers) in
    let inside : k < length c.loop-index.sums = search rules in
    let first : k < length c.args.sums.now = search rules in
    let within : k < length operands = search rules in
    let number : IsFieldNumber c.value.result = subst IsFieldNumber (sym c.value.ensures.value) c.value.ensures.range in
    let is = c.value.ensures.value ∙ c.number_of.ensures in
    record {
      sums = added-more (number_at emission) c.args.sums.now c.loop-index.sums operands k _ c.value.result c.loop-index.invariant.sums first within is _
          (plus-is _ _ (within-at (most_rows + 1) c.loop-index.sums k (pos 0) range inside) number);
      numbers = numbers-more (number_at emission) c.args.sums.now c.loop-index.sums operands k _ c.value.result c.loop-index.invariant.sums first within is
          c.loop-index.invariant.numbers number;
    }

pub returns-clause-sums : goal.returns-clause-sums
returns-clause-sums c =
    let end : c.loop-index.index ≡ min (length c.args.sums.now) (length c.args.operands.now) = search rules in
    c.loop-index.invariant.sums ∙ added-take (number_at c.args.emission.now) c.args.sums.now c.args.operands.now c.loop-index.index end

pub returns-clause-within : goal.returns-clause-within
returns-clause-within c = λ rows h.
    subst (AreWithin (rows + 1)) (sym c.loop-index.invariant.sums)
    (within-added rows c.args.sums.now (map (number_at c.args.emission.now) (take c.loop-index.index c.args.operands.now)) h
    c.loop-index.invariant.numbers)
