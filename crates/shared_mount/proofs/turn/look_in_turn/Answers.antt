use Rattle.std.proofs.Common.{◌∙◌, refl, sym, subst}
use Rattle.ticket_lock.specs.Calls.{view_of, held_view, held_ticket}
use Rattle.shared_mount.specs.LiveMountSeen.{LiveMountSeen}
use Rattle.shared_mount.specs.private.MountTurns.{TakenIn}
use Rattle.shared_mount.proofs.TurnLemmas.{turn_idle, turn_told}
use Rattle.shared_mount.proofs.turn.look_in_turn.Goals as goal

pub returns-clause-looked : goal.returns-clause-looked
returns-clause-looked g c v k taken =
    let held = c.args.held in
    let h = held_view held in
    let served = held_ticket held in
    let value = c.value.result.now in
    let has : TakenIn v h served value k = subst (λ (x : LiveMountSeen). TakenIn v h served x k) (sym c.value.ensures.value) taken in
    let w = view_of c.release-pass.result in
    record {
      idle = turn_idle v h w served value k has c.release-pass.ensures.back c.tracer.ensures.taken;
      told = turn_told v h w served value k has (g.L.Look.tells c.args.look.now) c.look-answer.result c.tracer.result.now value value.entries
          c.release-pass.ensures.back refl refl c.tracer.ensures.config c.tracer.ensures.lives c.look-answer.ensures;
    }

pub returns-clause-ticket : goal.returns-clause-ticket
returns-clause-ticket g c = c.release-pass.ensures.back.front ∙ c.requires.turn.1.drawn.front
