use Rattle.std.proofs.Common.{◌<◌, ◌∙◌, Bool, true, sym, subst, arith}
use Rattle.ticket_lock.specs.Calls.{view_of, held_view, held_ticket}
use Rattle.shared_mount.specs.LiveMountSeen.{LiveMountSeen}
use Rattle.shared_mount.specs.MountEntries.{EntrySeen}
use Rattle.shared_mount.specs.MountHistories.{IsNext, IsOwing}
use Rattle.shared_mount.specs.ShownMounts.{IsShownIn, shows}
use Rattle.shared_mount.specs.private.MountTurns.{TakenIn}
use Rattle.shared_mount.proofs.TurnLemmas.{turn_idle, turn_owing, turn_takes}
use Rattle.shared_mount.proofs.showing.show_in_turn.Goals as goal

pub answer_shown-requires-clause-shown : goal.answer_shown-requires-clause-shown
answer_shown-requires-clause-shown c =
    subst (λ (x : LiveMountSeen). IsShownIn x.terms x.entries c.args.shown) (sym c.value-mount.ensures.value) c.requires.shown

pub returns-then-owes-clause-serves : goal.returns-then-owes-clause-serves
returns-then-owes-clause-serves c v k taken =
    let held = c.args.held in
    let h = held_view held in
    let served = held_ticket held in
    let value = c.value-mount.result.now in
    let has : TakenIn v h served value k = subst (λ (x : LiveMountSeen). TakenIn v h served x k) (sym c.value-mount.ensures.value) taken in
    let w = view_of c.release-pass.result in
    let owing : IsOwing value.terms value.entries true =
    subst (λ (b : Bool). IsOwing value.terms value.entries b) (sym c.owes.ensures.is ∙ c.if-owes.true) c.owes.ensures.owing in (
      turn_idle v h w served value k has c.release-pass.ensures.back (record { after = owing.after; led = owing.led }),
      turn_owing v h w served value k has true c.release-pass.ensures.back owing,
      c.requires.empty,
    )

pub returns-clause-serves : goal.returns-clause-serves
returns-clause-serves c v k taken =
    let held = c.args.held in
    let h = held_view held in
    let served = held_ticket held in
    let value = c.value-mount.result.now in
    let has : TakenIn v h served value k = subst (λ (x : LiveMountSeen). TakenIn v h served x k) (sym c.value-mount.ensures.value) taken in
    let named : v.low < v.end = omega (arith, held.turn.named, held.turn.low_is, held.turn.end_is, taken.turn.drawn.low, taken.turn.drawn.end) in
    let left = c.answer_shown.ensures.left in
    let bytes = c.answer_shown.new.reply.items in
    let entry : EntrySeen = record { ticket = c.ticket-ticket.result; by = c.by-by.result; deed = left.1 } in
    let next : IsNext value.terms value.entries entry.deed c.owes-owes.result =
    subst (λ (b : Bool). IsNext value.terms value.entries entry.deed b) (sym c.owes-owes.ensures.is) left.4 in (
      left.0,
      turn_takes v h (view_of c.release-pass-2.result) served value k has (shows left.0 c.args.shown c.args.asked.now bytes) c.owes-owes.result entry
          c.answer_shown.new.self.entries named c.ticket-ticket.ensures c.by-by.ensures left.3 c.release-pass-2.ensures.back left.2 next,
    )

pub returns-then-owes-clause-ticket : goal.returns-then-owes-clause-ticket
returns-then-owes-clause-ticket c = c.release-pass.ensures.back.front ∙ c.requires.turn.1.drawn.front

pub returns-clause-ticket : goal.returns-clause-ticket
returns-clause-ticket c = c.release-pass-2.ensures.back.front ∙ c.requires.turn.1.drawn.front
