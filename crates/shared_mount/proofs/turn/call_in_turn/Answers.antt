use Rattle.std.proofs.Common.{◌∙◌, ◌<◌, Bool, refl, sym, subst, arith}
use Rattle.ticket_lock.specs.Calls.{view_of, held_view, held_ticket}
use Rattle.mount_replies.specs.Calls.{answer_of}
use Rattle.shared_mount.specs.AskedRequests.{request_after}
use Rattle.shared_mount.specs.LiveMountSeen.{LiveMountSeen}
use Rattle.shared_mount.specs.MountCallers.{calls}
use Rattle.shared_mount.specs.MountEntries.{DidCall, EntrySeen}
use Rattle.shared_mount.specs.MountHistories.{IsNext}
use Rattle.shared_mount.specs.private.MountTurns.{TakenIn}
use Rattle.shared_mount.proofs.TurnLemmas.{turn_takes, turn_told}
use Rattle.shared_mount.proofs.turn.call_in_turn.Goals as goal

pub returns-clause-takes : goal.returns-clause-takes
returns-clause-takes g c v k taken =
    let held = c.args.held in
    let h = held_view held in
    let served = held_ticket held in
    let value = c.value-mount.result.now in
    let has : TakenIn v h served value k = subst (λ (x : LiveMountSeen). TakenIn v h served x k) (sym c.value-mount.ensures.value) taken in
    let named : v.low < v.end = omega (arith, held.turn.named, held.turn.low_is, held.turn.end_is, taken.turn.drawn.low, taken.turn.drawn.end) in
    let asked = c.args.asked in
    let answer = answer_of c.call-is_done.result c.call-is_done.new.answer in
    let entry : EntrySeen = record { ticket = c.ticket-ticket.result; by = c.by-by.result; deed = DidCall (request_after value.entries asked) answer } in
    let next : IsNext value.terms value.entries entry.deed c.owes-owes.result =
    subst (λ (b : Bool). IsNext value.terms value.entries entry.deed b) (sym c.owes-owes.ensures.is) c.call-is_done.ensures.next in
    turn_takes v h (view_of c.release-pass.result) served value k has (calls (λ found. request_after found asked) answer) c.owes-owes.result entry
    c.call-is_done.new.self.entries named c.ticket-ticket.ensures c.by-by.ensures c.call-is_done.ensures.left c.release-pass.ensures.back refl next

pub returns-clause-looked : goal.returns-clause-looked
returns-clause-looked g c v k taken =
    let held = c.args.held in
    let h = held_view held in
    let served = held_ticket held in
    let value = c.value-mount.result.now in
    let has : TakenIn v h served value k = subst (λ (x : LiveMountSeen). TakenIn v h served x k) (sym c.value-mount.ensures.value) taken in
    let after = c.call-is_done.new.self in
    turn_told v h (view_of c.release-pass.result) served value k has (g.L.Look.tells c.args.look.now) c.look-told.result c.tracer.result.now after
    after.entries c.release-pass.ensures.back refl c.call-is_done.ensures.terms c.tracer.ensures.config c.tracer.ensures.lives c.look-told.ensures

pub returns-clause-ticket : goal.returns-clause-ticket
returns-clause-ticket g c = c.release-pass.ensures.back.front ∙ c.requires.turn.1.drawn.front
