use Rattle.std.proofs.Common.{◌∙◌, Bool, ap, rules, tests}
use Rattle.std.specs.List.{list_any}
use Rattle.std.proofs.lemmas.Iterator.{YieldsList-from_slice}
use Rattle.std.proofs.lemmas.Iterator.Search.{any_from_yields_List}
use Rattle.trace_instance.specs.TriggerLists.{TriggersSeen, is_hist}
use Rattle.trace_instance.specs.WantedEvents.{is_active}
use Rattle.trace_instance.specs.declared.hists.AttachedHist.{AttachedHist}
use Rattle.trace_instance.proofs.TriggerLists.{any-hist}
use Rattle.trace_instance.proofs.trigger_list.TriggerList.has_active_hist.Goals as goal

pub returns : goal.returns
returns c =
    let test : AttachedHist → Bool = is_active c.args.tables.now in
    any_from_yields_List (is_hist test) _ _ _ c.any.ensures.ran (YieldsList-from_slice c.self.inside.triggers.items cc) (λ x b q k. search (rules, tests))
    ∙ any-hist test c.self.inside.triggers.items ∙ ap (λ (t : TriggersSeen). list_any test t.hists) c.self.view_is
