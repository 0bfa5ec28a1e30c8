use Rattle.std.proofs.Common.{◌≡◌, None, IsSome, rules, tests}
use Rattle.std.proofs.lemmas.Iterator.{IsFirst-from_position, YieldsList-from_slice}
use Rattle.library_tracer.proofs.PassLemmas.{first_of}
use Rattle.library_tracer.proofs.passes.first_there.Goals as goal

pub returns : goal.returns
returns c =
    first_of c.args.callers.now c.position.result
    (IsFirst-from_position _ _ c.position.result (λ x. IsSome x) (λ x. x ≡ None) c.position.ensures.ran (YieldsList-from_slice c.args.callers.now cc)
    (λ x q k. search (rules, tests)) (λ x q k. search (rules, tests)))
