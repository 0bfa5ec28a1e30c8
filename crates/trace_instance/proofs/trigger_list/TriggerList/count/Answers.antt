use Rattle.std.proofs.Common.{◌∙◌, ◌+◌, if◌then◌else◌, is_some, length, ap, rules}
use Rattle.trace_instance.specs.TriggerLists.{TriggersSeen}
use Rattle.trace_instance.proofs.TriggerLists.{many-there}
use Rattle.trace_instance.proofs.trigger_list.TriggerList.count.Goals as goal

pub returns-then-append : goal.returns-then-append
returns-then-append c =
    let many = many-there c.self.inside.triggers.items c.self.invariant.1 in
    let seen = ap (λ (t : TriggersSeen). length t.hists + (if is_some t.snapshot then 1 else 0)) c.self.view_is in
    rw c.if-append.true (search (rules, many ∙ seen))
