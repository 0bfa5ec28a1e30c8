use Rattle.std.proofs.Common.{◌∙◌, sym, subst}
use Rattle.ticket_lock.specs.Calls.{view_of, held_view, held_ticket}
use Rattle.shared_mount.specs.LiveMountSeen.{LiveMountSeen}
use Rattle.shared_mount.specs.private.MountTurns.{TakenIn}
use Rattle.shared_mount.proofs.ShownLemmas.{copied-seen}
use Rattle.shared_mount.proofs.TurnLemmas.{turn_idle}
use Rattle.shared_mount.proofs.showing.copy_wanted_in_turn.Goals as goal

pub returns-clause-idle : goal.returns-clause-idle
returns-clause-idle c v k taken =
    let held = c.args.held in
    let h = held_view held in
    let served = held_ticket held in
    let value = c.value.result.now in
    let has : TakenIn v h served value k = subst (λ (x : LiveMountSeen). TakenIn v h served x k) (sym c.value.ensures.value) taken in
    turn_idle v h (view_of c.release-pass.result) served value k has c.release-pass.ensures.back c.copy_wanted-copied.ensures.taken

pub returns-clause-copied : goal.returns-clause-copied
returns-clause-copied c v k taken =
    let held = c.args.held in
    let h = held_view held in
    let served = held_ticket held in
    let value = c.value.result.now in
    let has : TakenIn v h served value k = subst (λ (x : LiveMountSeen). TakenIn v h served x k) (sym c.value.ensures.value) taken in
    copied-seen v h (view_of c.release-pass.result) served value k c.copy_wanted-copied.result has c.release-pass.ensures.back
    c.copy_wanted-copied.ensures.copied

pub returns-clause-ticket : goal.returns-clause-ticket
returns-clause-ticket c = c.release-pass.ensures.back.front ∙ c.requires.turn.1.drawn.front
