use Rattle.std.proofs.Common.{◌∙◌, not, sym, ap, arith}
use Rattle.std.proofs.lemmas.List.Sums.{prefix_len-le-length}
use lib.Count.{count_trailing_zeros}
use Rattle.trace_script.specs.private.Bytes.{is_rare}
use Rattle.trace_script.proofs.PrefixLemmas.{past_block, in_block}
use Rattle.trace_script.proofs.bytes.bare_len.Goals as goal

pub returns-then-bits-ne0-clause-value : goal.returns-then-bits-ne0-clause-value
returns-then-bits-ne0-clause-value c =
    let bits = c.rare_bits-bits in
    let run = in_block is_rare c.args.text.now c.loop-at.at 16 (omega arith) (omega arith) (omega (arith, bits.ensures))
    ∙ ap (count_trailing_zeros 64) (sym bits.ensures) in
    omega (arith, run, c.loop-at.invariant.counted)

pub returns-then-bits-ne0-clause-bound : goal.returns-then-bits-ne0-clause-bound
returns-then-bits-ne0-clause-bound c =
    let bits = c.rare_bits-bits in
    let run = in_block is_rare c.args.text.now c.loop-at.at 16 (omega arith) (omega arith) (omega (arith, bits.ensures))
    ∙ ap (count_trailing_zeros 64) (sym bits.ensures) in
    omega (arith, run, c.loop-at.invariant.counted, prefix_len-le-length (λ b. not (is_rare b)) c.args.text.now)

pub loop-at-preserved : goal.loop-at-preserved
loop-at-preserved c =
    let run = past_block is_rare c.args.text.now c.loop-at.at 16 (omega arith) (omega (arith, c.rare_bits-bits.ensures)) in
    record { counted = omega (arith, run, c.loop-at.invariant.counted); within = omega arith }

pub returns-clause-bound : goal.returns-clause-bound
returns-clause-bound c = omega (arith, c.loop-at.invariant.counted, prefix_len-le-length (λ b. not (is_rare b)) c.args.text.now)
