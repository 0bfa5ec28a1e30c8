use Rattle.std.proofs.Common.{arith}
use Rattle.std.proofs.lemmas.Simd.{zip2_splat}
use Rattle.trace_script.specs.private.Marks.{is_equals}
use Rattle.trace_script.proofs.BlockLemmas.{masked_at}
use Rattle.trace_script.proofs.MarkLemmas.{one_bit}
use Rattle.trace_script.proofs.PrefixLemmas.{same}
use Rattle.trace_script.proofs.marked.equals_bits.Goals as goal

pub returns : goal.returns
returns g c =
    let v = c.args.block in
    let long = c.fits-block.0 in
    masked_at _ is_equals v _ (omega arith) c.fits-block.1 (zip2_splat same v _ 61 long) (λ x within. one_bit _)
