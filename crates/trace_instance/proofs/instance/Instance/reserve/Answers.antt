use Rattle.std.proofs.Common.{◌≡◌, ◌∙◌, List, IfOk, OnErr, ap, subst, rules}
use Rattle.std.specs.List.{Any}
use Rattle.trace_instance.specs.Instances.{InstanceSeen}
use Rattle.trace_instance.specs.KeptHists.{NeedsMemory, passed}
use Rattle.trace_instance.specs.declared.hists.AttachedHist.{AttachedHist}
use Rattle.trace_instance.specs.declared.tables.Table.{Table}
use Rattle.trace_instance.proofs.EachEvent.{hists_at, hists_in}
use Rattle.trace_instance.proofs.HistChanges.{alike_one, in_place}
use Rattle.trace_instance.proofs.instance.Instance.reserve.Goals as goal

pub returns-clause-alike : goal.returns-clause-alike
returns-clause-alike c =
    rw (in_place c.self.inside.tables c.reserve.new.tables (search rules))
    (alike_one c.args.self.now _ c.reserve.new.tables c.self.view_is (rw c.deref_mut.ensures.value at c.reserve.ensures.alike))

pub returns-clause-passed : goal.returns-clause-passed
returns-clause-passed c =
    let e = c.args.emission.now in
    let seen = hists_at c.args.self.now c.self.inside c.args.event c.index.result.now c.self.view_is c.requires.event c.index.ensures in
    subst (λ (l : List AttachedHist). IfOk c.reserve.result (λ known. known ≡ passed e l)) seen c.reserve.ensures.passed

pub returns-clause-ready : goal.returns-clause-ready
returns-clause-ready c =
    let here = hists_in c.args.self.now c.self.inside c.args.event c.index.result.now c.self.view_is c.requires.event c.index.ensures in
    rw (in_place c.self.inside.tables c.reserve.new.tables (search rules), ← here) c.reserve.ensures.ready

pub returns-clause-memory : goal.returns-clause-memory
returns-clause-memory c =
    let e = c.args.emission.now in
    let seen = hists_at c.args.self.now c.self.inside c.args.event c.index.result.now c.self.view_is c.requires.event c.index.ensures in
    let tables = c.deref_mut.ensures.value ∙ ap (λ (i : InstanceSeen). i.tables) c.self.view_is in
    subst (λ (l : List AttachedHist). OnErr c.reserve.result (Any (NeedsMemory e c.args.self.now.tables) l)) seen
    (subst (λ (t : List Table). OnErr c.reserve.result (Any (NeedsMemory e t) c.index.result.now.triggers.hists)) tables c.reserve.ensures.memory)
