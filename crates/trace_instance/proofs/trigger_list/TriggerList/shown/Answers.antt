use Rattle.std.proofs.Common.{◌≡◌, ◌∙◌, ap, map, rules}
use Rattle.std.proofs.lemmas.List.{take_all}
use Rattle.trace_text.specs.HistText.{hist_text}
use Rattle.trace_text.specs.ShownTriggers.{shown_trigger}
use Rattle.trace_instance.specs.private.Commands.{shown_attached, shown_of}
use Rattle.trace_instance.specs.TriggerLists.{TriggersSeen}
use Rattle.trace_instance.proofs.TriggerLists.{has-table, hists-shown}
use Rattle.trace_instance.proofs.trigger_list.TriggerList.shown.Goals as goal

pub shown-requires : goal.shown-requires
shown-requires c =
    let list = c.deref-trigger-items.result.now in
    let hists = c.deref-trigger-items.ensures.value in
    has-table c.args.tables.now list c.loop-trigger.trigger-index c.trigger-item.result
    (rw (hists, ap (λ (t : TriggersSeen). t.hists) c.self.view_is) c.requires) c.loop-trigger-test.true c.trigger-item.is

pub returns-clause-hists : goal.returns-clause-hists
returns-clause-hists c =
    let list = c.self.inside.triggers.items in
    let all : map shown_trigger c.loop-trigger.shown.items ≡ map (shown_of c.args.tables.now) list =
    search (rules, take_all) in
    ap hist_text all ∙ hists-shown c.args.tables.now list
    ∙ ap (λ (t : TriggersSeen). hist_text (map (shown_attached c.args.tables.now) t.hists)) c.self.view_is
