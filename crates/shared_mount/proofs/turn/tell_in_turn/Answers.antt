use Rattle.std.proofs.Common.{◌<◌, ◌∙◌, Bool, false, [], refl, sym, subst, arith}
use Rattle.ticket_lock.specs.Calls.{view_of, held_view, held_ticket}
use Rattle.shared_mount.specs.LiveMountSeen.{LiveMountSeen}
use Rattle.shared_mount.specs.MountCallers.{exchanges}
use Rattle.shared_mount.specs.MountEntries.{DidExchange, EntrySeen}
use Rattle.shared_mount.specs.MountHistories.{IsNext, IsOwing}
use Rattle.shared_mount.specs.private.MountTurns.{TakenIn}
use Rattle.shared_mount.proofs.TurnLemmas.{turn_idle, turn_owing, turn_takes}
use Rattle.shared_mount.proofs.turn.tell_in_turn.Goals as goal

pub returns-then-is_owing-clause-serves : goal.returns-then-is_owing-clause-serves
returns-then-is_owing-clause-serves c v k taken =
    let held = c.args.held in
    let h = held_view held in
    let served = held_ticket held in
    let value = c.value-mount.result.now in
    let has : TakenIn v h served value k = subst (λ (x : LiveMountSeen). TakenIn v h served x k) (sym c.value-mount.ensures.value) taken in
    let named : v.low < v.end = omega (arith, held.turn.named, held.turn.low_is, held.turn.end_is, taken.turn.drawn.low, taken.turn.drawn.end) in
    let left = c.tell_owed.ensures.left in
    let bytes = c.tell_owed.new.reply.items in
    let entry : EntrySeen = record { ticket = c.ticket-ticket.result; by = c.by-by.result; deed = DidExchange [] bytes left.0 } in
    let next : IsNext value.terms value.entries entry.deed c.owes-owes.result =
    subst (λ (b : Bool). IsNext value.terms value.entries entry.deed b) (sym c.owes-owes.ensures.is) left.2 in
    turn_takes v h (view_of c.release-pass.result) served value k has (exchanges [] bytes) c.owes-owes.result entry c.tell_owed.new.self.entries named
    c.ticket-ticket.ensures c.by-by.ensures left.1 c.release-pass.ensures.back (left.0, refl) next

pub returns-clause-serves : goal.returns-clause-serves
returns-clause-serves c v k taken =
    let held = c.args.held in
    let h = held_view held in
    let served = held_ticket held in
    let value = c.value-mount.result.now in
    let has : TakenIn v h served value k = subst (λ (x : LiveMountSeen). TakenIn v h served x k) (sym c.value-mount.ensures.value) taken in
    let w = view_of c.release-pass-2.result in
    let owing : IsOwing value.terms value.entries false = subst (λ (b : Bool). IsOwing value.terms value.entries b) (sym c.owes-is_owing.ensures.is ∙ c.if-is_owing.false) c.owes-is_owing.ensures.owing in (
      turn_idle v h w served value k has c.release-pass-2.ensures.back (record { after = owing.after; led = owing.led }),
      turn_owing v h w served value k has false c.release-pass-2.ensures.back owing,
      c.requires.empty,
    )

pub returns-then-is_owing-clause-ticket : goal.returns-then-is_owing-clause-ticket
returns-then-is_owing-clause-ticket c = c.release-pass.ensures.back.front ∙ c.requires.turn.1.drawn.front

pub returns-clause-ticket : goal.returns-clause-ticket
returns-clause-ticket c = c.release-pass-2.ensures.back.front ∙ c.requires.turn.1.drawn.front
