use Rattle.std.proofs.Common.{◌≡◌, ◌+◌, ◌-◌, ◌^◌, ◌*◌, pos, ◌≤ℤ◌, ◌<ℤ◌, refl, ap, arith, to_z, of_z}
use Rattle.std.specs.Int.{w128}
use Rattle.std.proofs.lemmas.Int.{ints}
use Rattle.hist_entries.specs.Buckets.{log2_of}
use Rattle.hist_entries.proofs.BucketLemmas.{run_from, doubled, run_begins, run_more, run_stops, run_ends}
use Rattle.hist_entries.proofs.bucket.log2_of.Goals as goal

pub loop-exponent-init : goal.loop-exponent-init
loop-exponent-init c = record { power = refl; so_far = omega (arith, run_begins (to_z w128 (of_z w128 c.args.number))) }

pub loop-exponent-preserved : goal.loop-exponent-preserved
loop-exponent-preserved c =
    let k = c.loop-exponent.exponent in
    let power = c.loop-exponent.invariant.power in
    let less = c.if-number-power.false in
    let below : pos (2 ^ k) <ℤ to_z w128 (of_z w128 c.args.number) = grind (arith, ints) in
    let most : c.args.number ≤ℤ pos (2 ^ 64) = omega (arith, ints, c.requires.1) in
    let double : 2 ^ (k + 1) ≡ 2 ^ k * 2 = doubled k in
    record {
      power = omega (arith, ints);
      so_far = omega (arith, c.loop-exponent.invariant.so_far, run_more (to_z w128 (of_z w128 c.args.number)) k c.loop-exponent-test.true below);
    }

pub returns-then-number-power : goal.returns-then-number-power
returns-then-number-power c =
    let k = c.loop-exponent.exponent in
    let power = c.loop-exponent.invariant.power in
    let test = c.if-number-power.true in
    let most : to_z w128 (of_z w128 c.args.number) ≤ℤ pos (2 ^ k) = grind (arith, ints) in
    let same : to_z w128 (of_z w128 c.args.number) ≡ c.args.number = omega (arith, ints) in
    omega (arith, c.loop-exponent.invariant.so_far, run_stops (to_z w128 (of_z w128 c.args.number)) k c.loop-exponent-test.true most, ap log2_of same)

pub returns : goal.returns
returns c =
    let end : c.loop-exponent.exponent ≡ 64 = omega (arith, c.loop-exponent.auto.exponent-end, c.loop-exponent-test.false) in
    let same : to_z w128 (of_z w128 c.args.number) ≡ c.args.number = omega (arith, ints) in
    omega (arith, c.loop-exponent.invariant.so_far, ap (λ k. k + run_from (to_z w128 (of_z w128 c.args.number)) k (64 - k)) end, run_ends (to_z w128 (of_z w128 c.args.number)), ap log2_of same)
