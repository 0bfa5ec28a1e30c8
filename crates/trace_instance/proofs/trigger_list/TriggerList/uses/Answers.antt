use Rattle.std.proofs.Common.{◌==◌, ◌∙◌, Bool, ap, rules, tests}
use Rattle.std.proofs.lemmas.Iterator.{YieldsList-from_slice}
use Rattle.std.proofs.lemmas.Iterator.Search.{any_from_yields_List}
use Rattle.trace_instance.specs.KeptHists.{uses_table}
use Rattle.trace_instance.specs.TriggerLists.{TriggersSeen, is_hist}
use Rattle.trace_instance.specs.declared.hists.AttachedHist.{AttachedHist}
use Rattle.trace_instance.proofs.TriggerLists.{any-hist}
use Rattle.trace_instance.proofs.trigger_list.TriggerList.uses.Goals as goal

pub returns : goal.returns
returns c =
    let test : AttachedHist → Bool = λ a. a.table == c.args.table in
    any_from_yields_List (is_hist test) _ _ _ c.any.ensures.ran (YieldsList-from_slice c.self.inside.triggers.items cc) (λ x b q k. search (rules, tests))
    ∙ any-hist test c.self.inside.triggers.items ∙ ap (λ (t : TriggersSeen). uses_table c.args.table t.hists) c.self.view_is
