use Rattle.std.proofs.Common.{◌∙◌, sym, is_some, rules, tests}
use Rattle.std.proofs.lemmas.Iterator.{YieldsList-from_slice}
use Rattle.std.proofs.lemmas.Iterator.Search.{all_from_yields_List}
use Rattle.library_tracer.proofs.PassLemmas.{is_whole}
use Rattle.library_tracer.proofs.passes.Passes.is_whole.Goals as goal

pub returns-then-is_some : goal.returns-then-is_some
returns-then-is_some c =
    let p = c.self.inside in
    is_whole p.tracer p.callers.items _ _ (sym c.is_some.ensures ∙ c.if-is_some.true) c.self.view_is
    (all_from_yields_List (λ x. is_some x) _ _ _ c.all.ensures.ran (YieldsList-from_slice p.callers.items cc) (λ x b q k. search (rules, tests)))
