use Rattle.std.proofs.Common.{rules, sym, w32}
use Rattle.std.proofs.lemmas.Int.{to_z-of_z}
use Rattle.trace_script.proofs.BareEmissions.{rest_read}
use Rattle.trace_script.proofs.emission.cut_bare.Goals as goal

pub returns-clause-read : goal.returns-clause-read
returns-clause-read c =
    rw (to_z-of_z w32 c.in-Some-Some.pid (search rules)) (rest_read _ _ _ _ _ _ _ _ c.in-Some.ensures.tokens
    (sym c.in-Some-Some.ensures) (sym c.in-Some-Some.ensures') (c.in_ok-cut_pairs.ensures.whole (search rules)) (c.in_ok-cut_pairs.ensures.some (search rules)))
