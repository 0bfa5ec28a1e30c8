use Rattle.std.proofs.Common.{IfSome, subst}
use Rattle.trace_command.specs.Requests.{request_of}
use Rattle.trace_command.specs.declared.command.CommandOf.TheVariants as commands
use Rattle.tracer.specs.LateReads.{replied}
use Rattle.mount_replies.specs.Watches.{Covers}
use Rattle.shared_mount.specs.LiveMountSeen.{LiveMountSeen}
use Rattle.shared_mount.specs.MountEntries.{DidCall, done_in}
use Rattle.shared_mount.specs.MountHistories.{IsNext}
use Rattle.shared_mount.proofs.KnownEvents.{covers-kept, fresh_known}
use Rattle.shared_mount.proofs.MountSteps.{Stands, call-stands, call-steps, steps-next}
use Rattle.shared_mount.proofs.live_mount.LiveMount.copy.Goals as goal

pub invariant_of-self : goal.invariant_of-self
invariant_of-self c =
    let entries = c.self.inside.past.items in
    let new = c.copy_within-answer.new.self in
    let is = c.copy_within-answer.ensures (done_in entries) c.self.invariant.mounted in
    let left = c.with_copy-self-inside.result.items in
    let s : Stands c.self.inside.limit left new =
    call-stands c.self.inside.limit entries c.self.inside.mount new (request_of (commands.Read c.args.path.now c.args.most)) (replied c.copy_within-answer.result)
    c.args.ticket c.args.by left c.self.invariant.few (record { mounted = c.self.invariant.mounted; led = c.self.invariant.led }) is
    c.with_copy-self-inside.ensures in
    let watch = c.forget_events.new.watch in
    let covers : IfSome watch (λ w. Covers new.files new.parked w.slots) =
    rw (is.files, is.parked)
    (covers-kept c.self.inside.watch watch c.self.inside.mount.files c.self.inside.mount.parked c.forget_events.ensures.slots c.self.invariant.covers) in
    let known = fresh_known new.live.config.cpus (done_in left) watch c.forget_events.ensures.events in
    record { mounted = s.mounted; few = c.self.invariant.few; covers = covers; known = known; led = s.led }

pub returns-clause-next : goal.returns-clause-next
returns-clause-next c =
    let entries = c.self.inside.past.items in
    let old = c.self.inside.mount in
    let new = c.copy_within-answer.new.self in
    let request = request_of (commands.Read c.args.path.now c.args.most) in
    let answer = replied c.copy_within-answer.result in
    let stands : Stands c.self.inside.limit entries old = record { mounted = c.self.invariant.mounted; led = c.self.invariant.led } in
    subst (λ (s : LiveMountSeen). IsNext s.terms s.entries (DidCall request answer) new.owes) c.self.view_is
    (steps-next c.self.inside.limit entries old new (DidCall request answer) stands
    (call-steps c.self.inside.limit entries old new request answer c.self.invariant.few c.self.invariant.mounted
    (c.copy_within-answer.ensures (done_in entries) c.self.invariant.mounted)))
