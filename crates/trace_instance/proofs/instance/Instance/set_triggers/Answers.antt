use Rattle.std.proofs.Common.{refl, rules, ◌∙◌}
use Rattle.trace_instance.proofs.HistChanges.{are_set, asked-one, same_sides, unasked, in_place}
use Rattle.trace_instance.proofs.instance.Instance.set_triggers.Goals as goal

pub returns-in-Keep-clause-applied : goal.returns-in-Keep-clause-applied
returns-in-Keep-clause-applied c =
    rw c.in-Keep.is (are_set c.args.event c.args.append _ c.args.self.now c.self.inside c.index_mut.result.now _ _ _ c.self.view_is c.requires.hists
    c.index_mut.ensures.value (record { snapshot = c.keep.ensures.snapshot; hists = c.keep.ensures.hists }) (λ n. unasked _) (same_sides _ _ _ _ (λ f. refl)))

pub returns-in-DetachSnapshot-clause-applied : goal.returns-in-DetachSnapshot-clause-applied
returns-in-DetachSnapshot-clause-applied c =
    rw c.in-DetachSnapshot.is (are_set c.args.event c.args.append _ c.args.self.now c.self-in-DetachSnapshot.inside c.index_mut-in-DetachSnapshot.result.now _ _ _
    c.self-in-DetachSnapshot.view_is c.requires.hists c.index_mut-in-DetachSnapshot.ensures.value
    (record { snapshot = c.detach_snapshot.ensures.snapshot; hists = c.detach_snapshot.ensures.hists }) (λ n. unasked _) (same_sides _ _ _ _ (λ f. refl)))

pub returns-in-DetachHist-clause-applied : goal.returns-in-DetachHist-clause-applied
returns-in-DetachHist-clause-applied c =
    rw c.in-DetachHist.is (are_set c.args.event c.args.append _ c.args.self.now c.self-in-DetachHist.inside c.index_mut-in-DetachHist.result.now _ _ _
    c.self-in-DetachHist.view_is c.requires.hists c.index_mut-in-DetachHist.ensures.value
    (record { snapshot = c.detach_hist.ensures.snapshot; hists = rw c.deref.ensures at c.detach_hist.ensures.hists }) (λ n. unasked _) (same_sides _ _ _ _ (λ f. refl)))

pub returns-in-AskTable-clause-applied : goal.returns-in-AskTable-clause-applied
returns-in-AskTable-clause-applied c =
    let asks = rw c.deref_mut.ensures.value at c.ask.ensures in
    rw (c.in-AskTable.is, in_place c.self-in-AskTable.inside.tables c.ask.new.tables (search rules))
    (are_set c.args.event c.args.append _ c.args.self.now c.self-in-AskTable.inside c.index_mut-in-AskTable.result.now _ _ _
    c.self-in-AskTable.view_is c.requires.hists c.index_mut-in-AskTable.ensures.value
    (record { snapshot = c.keep-in-AskTable.ensures.snapshot; hists = c.keep-in-AskTable.ensures.hists })
    (λ n. asks n ∙ asked-one c.in-AskTable.table n c.in-AskTable.action _) (same_sides _ _ _ _ (λ f. refl)))
