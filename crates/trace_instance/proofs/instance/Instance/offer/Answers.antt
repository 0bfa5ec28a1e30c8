use Rattle.std.proofs.Common.{◌≡◌, to_z, of_z, w32, rules}
use Rattle.std.proofs.lemmas.Int.{to_z-of_z}
use Rattle.trace_instance.proofs.EachEvent.{hists_in}
use Rattle.trace_instance.proofs.HistChanges.{in_place, offered_one}
use Rattle.trace_instance.proofs.instance.Instance.offer.Goals as goal

pub returns : goal.returns
returns c =
    let d = c.args.delivery.now in
    let pid : to_z w32 (of_z w32 d.pid) ≡ d.pid = to_z-of_z w32 d.pid (search rules) in
    let hists = hists_in c.args.self.now c.self.inside d.event c.index.result.now c.self.view_is c.requires.hists c.index.ensures in
    rw (in_place c.self.inside.tables c.hit.new.tables (search rules))
    (offered_one d c.args.self.now _ c.index.result.now.triggers.hists c.hit.new.tables c.self.view_is hists (rw (pid, c.deref_mut.ensures.value) at c.hit.ensures))
