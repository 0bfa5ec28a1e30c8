use Rattle.std.proofs.Common.{◌≡◌, ℤ, refl, sym, ap, w32, to_z, of_z}
use Rattle.std.proofs.lemmas.Int.{to_z-of_z}
use Rattle.trace_command.specs.Requests.{Emission}
use Rattle.mount_replies.specs.Steps.{AsksFor}
use Rattle.mount_replies.proofs.StreamLemmas.{event-done}
use Rattle.mount_replies.proofs.mount.Mount.do_emission.Goals as goal

pub returns-in-Ok : goal.returns-in-Ok
returns-in-Ok c =
    let same : to_z w32 (of_z w32 c.args.pid) ≡ c.args.pid = to_z-of_z w32 c.args.pid c.ranges.pid in
    λ past mounted.
    event-done past c.args.self.now c.ask_emission.new.self (Emission c.args.event.now c.args.cpu (to_z w32 (of_z w32 c.args.pid)) c.args.pairs.now) _ c.in-Ok.field-0
    (rw c.emit.ensures at (c.in-Ok.ensures past mounted)) (record { makes_none = refl; removes_none = refl; declares_none = refl })
    (ap (λ (p : ℤ). AsksFor (Emission c.args.event.now c.args.cpu p c.args.pairs.now)) (sym same))
