use Rattle.std.proofs.Common.{append_assoc}
use Rattle.fuse_wire.proofs.NumberLemmas.{two_zeros}
use Rattle.fuse_wire.proofs.encoder.agreement_words.Goals as goal

pub returns : goal.returns
returns c =
    rw (c.pair.ensures, c.pair-2.ensures, c.triple.ensures, c.pair-3.ensures, c.pair-4.ensures, c.pair-5.ensures, c.pair-6.ensures, c.pair-7.ensures)
    (simp (append_assoc, two_zeros))
