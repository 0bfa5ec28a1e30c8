use Rattle.std.proofs.Common.{◌≤◌, length, arith}
use Rattle.std.specs.Fmt.{decimal}
use Rattle.std.proofs.lemmas.Fmt.{length-decimal-le}
use Rattle.record_text.proofs.append.put_number_before.Goals as goal

pub write_digits-requires : goal.write_digits-requires
write_digits-requires c =
    let short : length (decimal c.args.n) ≤ 20 = length-decimal-le 20 c.args.n (omega arith) (omega (arith, c.ranges.n.fits)) c.ranges.n.fits in
    (omega (arith, short, c.requires.room), c.requires.inside)

pub returns-clause-short : goal.returns-clause-short
returns-clause-short c =
    let short : length (decimal c.args.n) ≤ 20 = length-decimal-le 20 c.args.n (omega arith) (omega (arith, c.ranges.n.fits)) c.ranges.n.fits in
    omega (arith, short, c.write_digits.ensures.start)
