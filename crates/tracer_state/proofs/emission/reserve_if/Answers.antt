use Rattle.std.proofs.Common.{◌<◌, false, List, [], ◌∷◌, refl, sym, ap, ◌∙◌, arith}
use Rattle.std.proofs.lemmas.List.{get_or-replicate}
use Rattle.trace_instance.specs.KeptHists.{passed}
use Rattle.trace_instance.specs.declared.hists.AttachedHist.{AttachedHist}
use Rattle.tracer_state.proofs.emission.reserve_if.Goals as goal

pub returns-clause-alike : goal.returns-clause-alike
returns-clause-alike c = record {
  many = refl;
  names = λ k d inside. refl;
  came = λ k d inside. record { rest = refl; tables = λ number. refl };
}

pub returns-clause-passed : goal.returns-clause-passed
returns-clause-passed c = λ k n inside.
    let none = c.requires.none c.if-triggered.false k n inside in
    let small : k < 8 = omega (arith, inside, c.requires.few) in
    get_or-replicate 8 k (false ∷ false ∷ false ∷ false ∷ []) [] small ∙ sym (ap (λ (l : List AttachedHist). passed c.args.emission l) none)

pub returns-clause-counted : goal.returns-clause-counted
returns-clause-counted c = λ k n inside. rw (c.requires.none c.if-triggered.false k n inside) (λ j a within. absurd (omega (arith, within)))
