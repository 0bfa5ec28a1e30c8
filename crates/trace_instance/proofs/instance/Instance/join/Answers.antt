use Rattle.std.proofs.Common.{◌∙◌, refl, rules}
use Rattle.trace_instance.proofs.HistChanges.{are_set, asked-one, same_sides, in_place}
use Rattle.trace_instance.proofs.instance.Instance.join.Goals as goal

pub returns-clause-joined : goal.returns-clause-joined
returns-clause-joined c =
    let asks = rw (c.deref_mut.ensures.value, c.action-action.ensures, c.deref.ensures) at c.ask.ensures in
    let hists = c.reserve_one.ensures.hists in
    rw (in_place c.self.inside.tables c.ask.new.tables (search rules))
    (are_set c.args.event c.args.append _ c.args.self.now c.self.inside c.index_mut.result.now _ _ _ c.self.view_is c.requires.hists c.index_mut.ensures.value
    (record {
      snapshot = c.attach.ensures.snapshot ∙ c.reserve_one.ensures.snapshot;
      hists = rw hists at c.attach.ensures.hists;
    })
    (λ n. asks n ∙ asked-one _ n _ _) (same_sides _ _ _ _ (λ f. refl)))
