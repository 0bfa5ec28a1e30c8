use Rattle.std.proofs.Common.{arith}
use Rattle.std.proofs.lemmas.Simd.{zip2_splat, zip2_of_maps}
use Rattle.trace_script.specs.private.Bytes.{is_stop}
use Rattle.trace_script.proofs.BlockLemmas.{masked_at}
use Rattle.trace_script.proofs.PrefixLemmas.{same, at_most, either_bit}
use Rattle.trace_script.proofs.prefix.stop_bits.Goals as goal

pub returns : goal.returns
returns c =
    let v = c.args.block in
    let long = c.fits-block.0 in
    masked_at _ (is_stop c.args.end) v _ (omega arith) c.fits-block.1
    (zip2_of_maps _ _ _ v (zip2_splat at_most v 16 32 long) (zip2_splat same v 16 c.args.end long))
    (λ x within. either_bit _ _)
