use Rattle.std.proofs.Common.{◌∙◌, [], if◌then◌else◌, List, Result, Ok, Err, OnErr, append-nil, ap}
use Rattle.trace_instance.specs.declared.hists.AttachedHist.{AttachedHist}
use Rattle.trace_instance.proofs.HistChanges.{are_set, armed_sides, memory-more, unasked}
use Rattle.trace_instance.proofs.instance.Instance.arm.Goals as goal

refused : {A E P : Type 0} (result : Result A E) → P → OnErr result P
refused (Ok value) is = tt
refused (Err error) is = is

pub returns-in_err-arm-clause-refused : goal.returns-in_err-arm-clause-refused
returns-in_err-arm-clause-refused c =
    refused c.from_residual-in_err-arm.result
    (memory-more c.args.event c.args.self.now c.self.inside c.index_mut.result.now c.reserve_one.new.self c.arm.new.self c.self.view_is
    c.index_mut.ensures.value c.reserve_one.ensures.snapshot c.reserve_one.ensures.hists c.in_err-arm.ensures.refused)

pub returns-clause-armed : goal.returns-clause-armed
returns-clause-armed c =
    let armed = c.in_ok-arm.ensures in
    are_set c.args.event c.args.append _ c.args.self.now c.self.inside c.index_mut.result.now _ _ _ c.self.view_is c.requires.hists c.index_mut.ensures.value
    (record {
      snapshot = c.attach.ensures.snapshot;
      hists = c.attach.ensures.hists ∙ append-nil _ ∙ ap (λ (l : List AttachedHist). if c.args.append then l else []) c.reserve_one.ensures.hists;
    })
    (λ n. unasked _) (armed_sides _ _ _ _ _ armed.live armed.spare armed.stands armed.shape)
