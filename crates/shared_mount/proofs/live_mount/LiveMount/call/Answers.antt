use Rattle.std.proofs.Common.{IfSome, subst}
use Rattle.mount_replies.specs.Watches.{Covers}
use Rattle.mount_replies.specs.Calls.{answer_of}
use Rattle.shared_mount.specs.AskedRequests.{request_after}
use Rattle.shared_mount.specs.LiveMountSeen.{LiveMountSeen}
use Rattle.shared_mount.specs.MountEntries.{DidCall}
use Rattle.shared_mount.specs.MountHistories.{IsNext}
use Rattle.shared_mount.proofs.KnownEvents.{called-known, covers-kept}
use Rattle.shared_mount.proofs.MountSteps.{Stands, call-stands, call-steps, steps-next}
use Rattle.shared_mount.proofs.live_mount.LiveMount.call.Goals as goal

pub invariant_of-self : goal.invariant_of-self
invariant_of-self c =
    let entries = c.self.inside.past.items in
    let answer = answer_of c.run-is_done.result c.run-is_done.new.answer in
    let s : Stands c.self.inside.limit c.with_call-self-inside.result.items c.run-is_done.new.mount =
    call-stands c.self.inside.limit entries c.self.inside.mount c.run-is_done.new.mount (request_after entries c.args.asked) answer c.args.ticket c.args.by
    c.with_call-self-inside.result.items c.self.invariant.few (record { mounted = c.self.invariant.mounted; led = c.self.invariant.led })
    (c.run-is_done.ensures.commanded entries c.self.invariant.mounted c.self.invariant.known) c.with_call-self-inside.ensures in
    let is = c.run-is_done.ensures.commanded entries c.self.invariant.mounted c.self.invariant.known in
    let new = c.run-is_done.new.mount in
    let watch = c.run-is_done.new.watch in
    let covers : IfSome watch (λ w. Covers new.files new.parked w.slots) =
    rw (is.files, is.parked)
    (covers-kept c.self.inside.watch watch c.self.inside.mount.files c.self.inside.mount.parked c.run-is_done.ensures.slots c.self.invariant.covers) in
    let known = called-known entries c.with_call-self-inside.result.items c.self.inside.mount new (request_after entries c.args.asked) answer c.args.ticket c.args.by
    watch is.terms c.with_call-self-inside.ensures (c.run-is_done.ensures.known entries c.self.invariant.mounted c.self.invariant.known) in
    record { mounted = s.mounted; few = c.self.invariant.few; covers = covers; known = known; led = s.led }

pub returns-clause-next : goal.returns-clause-next
returns-clause-next c =
    let entries = c.self.inside.past.items in
    let request = request_after entries c.args.asked in
    let answer = answer_of c.run-is_done.result c.run-is_done.new.answer in
    let stands : Stands c.self.inside.limit entries c.self.inside.mount = record { mounted = c.self.invariant.mounted; led = c.self.invariant.led } in
    subst (λ (s : LiveMountSeen). IsNext s.terms s.entries (DidCall (request_after s.entries c.args.asked) answer) c.run-is_done.new.mount.owes)
    c.self.view_is
    (steps-next c.self.inside.limit entries c.self.inside.mount c.run-is_done.new.mount (DidCall request answer) stands
    (call-steps c.self.inside.limit entries c.self.inside.mount c.run-is_done.new.mount request answer c.self.invariant.few c.self.invariant.mounted (c.run-is_done.ensures.commanded entries c.self.invariant.mounted c.self.invariant.known)))
