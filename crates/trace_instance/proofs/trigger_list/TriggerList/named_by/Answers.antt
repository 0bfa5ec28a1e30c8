use Rattle.std.proofs.Common.{◌∙◌, ap, rules, tests}
use Rattle.std.specs.List.{find}
use Rattle.std.specs.Option.{option_and_then}
use Rattle.std.proofs.lemmas.Iterator.{YieldsList-from_slice}
use Rattle.std.proofs.lemmas.Iterator.Search.{find_from_yields_List}
use Rattle.trace_instance.specs.private.SharedTables.{names_table_of}
use Rattle.trace_instance.specs.TriggerLists.{TriggersSeen, hist_of, is_hist}
use Rattle.trace_instance.proofs.TriggerLists.{hist-found}
use Rattle.trace_instance.proofs.trigger_list.TriggerList.named_by.Goals as goal

pub returns : goal.returns
returns c =
    let test = names_table_of c.args.spec.now in
    c.hist.ensures
    ∙ ap (option_and_then hist_of) (find_from_yields_List (is_hist test) _ _ c.find.result c.find.ensures.ran
    (YieldsList-from_slice c.self.inside.triggers.items cc) (λ x b q k. search (rules, tests)))
    ∙ hist-found test c.self.inside.triggers.items ∙ ap (λ (t : TriggersSeen). find test t.hists) c.self.view_is
