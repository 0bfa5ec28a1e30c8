use Rattle.std.proofs.Common.{◌∙◌, ap, rules, tests}
use Rattle.std.specs.Option.{option_and_then}
use Rattle.std.proofs.lemmas.Iterator.{YieldsList-from_slice}
use Rattle.std.proofs.lemmas.Iterator.Search.{find_from_yields_List}
use Rattle.trace_instance.specs.TriggerLists.{TriggersSeen, is_snapshot, snapshot_of}
use Rattle.trace_instance.proofs.TriggerLists.{snapshot-found}
use Rattle.trace_instance.proofs.trigger_list.TriggerList.snapshot.Goals as goal

pub returns : goal.returns
returns c =
    c.snapshot.ensures
    ∙ ap (option_and_then snapshot_of) (find_from_yields_List is_snapshot _ _ c.find.result c.find.ensures.ran
    (YieldsList-from_slice c.self.inside.triggers.items cc) (λ x b q k. search (rules, tests)))
    ∙ snapshot-found c.self.inside.triggers.items ∙ ap (λ (t : TriggersSeen). t.snapshot) c.self.view_is
