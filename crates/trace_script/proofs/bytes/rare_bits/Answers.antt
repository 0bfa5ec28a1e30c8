use Rattle.std.proofs.Common.{ℕ, refl, arith}
use Rattle.std.proofs.lemmas.Simd.{zip2_splat, zip2_splat_left, zip2_of_maps}
use Rattle.trace_script.specs.private.Bytes.{is_rare}
use Rattle.trace_script.proofs.BlockLemmas.{below, masked}
use Rattle.trace_script.proofs.bytes.rare_bits.Goals as goal

pub returns : goal.returns
returns g c =
    let v = c.args.block in
    let long = c.fits-block.0 in
    masked _ is_rare v _ (omega arith) c.fits-block.1
    (zip2_of_maps _ _ _ v
    (zip2_of_maps _ _ _ v
    (zip2_of_maps _ _ _ v
    (zip2_of_maps _ _ _ v (zip2_splat _ v _ 32 long) (zip2_splat_left {X = ℕ} below 126 _ v long))
    (zip2_splat _ v _ 9 long))
    (zip2_of_maps _ _ _ v (zip2_splat _ v _ 39 long) (zip2_splat _ v _ 34 long)))
    (zip2_splat _ v _ 62 long))
    refl
