use Rattle.std.proofs.Common.{◌≤◌, ℕ, List, length, subst, sym, arith}
use Rattle.std.proofs.lemmas.List.{length-take}
use Rattle.error_log.proofs.blame.window.Goals as goal

pub returns-clause-bound : goal.returns-clause-bound
returns-clause-bound c =
    let taken = length-take 256 c.after.result.now in
    subst (λ (kept : List ℕ). length kept ≤ 256) (sym c.up_to.ensures) (omega (arith, taken))
