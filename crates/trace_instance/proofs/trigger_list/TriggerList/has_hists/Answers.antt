use Rattle.std.proofs.Common.{◌≡◌, ◌==◌, ◌∙◌, List, [], ◌∷◌, ap, arith, length, not, refl, rules, tests, true}
use Rattle.std.specs.List.{list_any}
use Rattle.std.proofs.lemmas.Bool.{ne_eqb}
use Rattle.std.proofs.lemmas.Iterator.{YieldsList-from_slice}
use Rattle.std.proofs.lemmas.Iterator.Search.{any_from_yields_List}
use Rattle.trace_instance.specs.TriggerLists.{TriggersSeen, hists_in, is_hist}
use Rattle.trace_instance.specs.declared.hists.AttachedHist.{AttachedHist}
use Rattle.trace_instance.proofs.TriggerLists.{any-hist, hist-only}
use Rattle.trace_instance.proofs.trigger_list.TriggerList.has_hists.Goals as goal

none-there : (hists : List AttachedHist) → list_any (λ (a : AttachedHist). true) hists ≡ not (length hists == 0)
none-there [] = refl
none-there (a ∷ hists) = rw (ne_eqb (length (a ∷ hists)) 0 (λ e. omega (arith, e))) refl

pub returns : goal.returns
returns c =
    any_from_yields_List (is_hist (λ a. true)) _ _ _ c.any.ensures.ran (YieldsList-from_slice c.self.inside.triggers.items cc) (λ x b q k. search (rules, tests, hist-only))
    ∙ any-hist (λ a. true) c.self.inside.triggers.items ∙ none-there (hists_in c.self.inside.triggers.items)
    ∙ ap (λ (t : TriggersSeen). not (length t.hists == 0)) c.self.view_is
