use Rattle.std.proofs.Common.{◌∙◌, ◌<◌, Bool, refl, sym, subst, arith}
use Rattle.ticket_lock.specs.Calls.{view_of, held_view, held_ticket}
use Rattle.trace_command.specs.Requests.{request_of}
use Rattle.trace_command.specs.declared.command.CommandOf.TheVariants as commands
use Rattle.tracer.specs.LateReads.{replied}
use Rattle.shared_mount.specs.LiveMountSeen.{LiveMountSeen}
use Rattle.shared_mount.specs.MountCallers.{calls}
use Rattle.shared_mount.specs.MountEntries.{DidCall, EntrySeen}
use Rattle.shared_mount.specs.MountHistories.{IsNext}
use Rattle.shared_mount.specs.private.MountTurns.{TakenIn}
use Rattle.shared_mount.proofs.TurnLemmas.{turn_takes}
use Rattle.shared_mount.proofs.copying.copy_in_turn.Goals as goal

pub returns-clause-takes : goal.returns-clause-takes
returns-clause-takes c v k taken =
    let held = c.args.held in
    let h = held_view held in
    let served = held_ticket held in
    let value = c.value-mount.result.now in
    let has : TakenIn v h served value k = subst (λ (x : LiveMountSeen). TakenIn v h served x k) (sym c.value-mount.ensures.value) taken in
    let named : v.low < v.end = omega (arith, held.turn.named, held.turn.low_is, held.turn.end_is, taken.turn.drawn.low, taken.turn.drawn.end) in
    let request = request_of (commands.Read c.args.path.now c.args.most) in
    let answer = replied c.copy-answer.result in
    let entry : EntrySeen = record { ticket = c.ticket-ticket.result; by = c.by-by.result; deed = DidCall request answer } in
    let next : IsNext value.terms value.entries entry.deed c.owes-owes.result =
    subst (λ (b : Bool). IsNext value.terms value.entries entry.deed b) (sym c.owes-owes.ensures.is) c.copy-answer.ensures.next in
    turn_takes v h (view_of c.release-pass.result) served value k has (calls (λ found. request) answer) c.owes-owes.result entry
    c.copy-answer.new.self.entries named c.ticket-ticket.ensures c.by-by.ensures c.copy-answer.ensures.left c.release-pass.ensures.back refl next

pub returns-clause-ticket : goal.returns-clause-ticket
returns-clause-ticket c = c.release-pass.ensures.back.front ∙ c.requires.turn.1.drawn.front
