use Rattle.std.proofs.Common.{sym}
use Rattle.ticket_lock.specs.Calls.{view_of, held_view, held_ticket, held_value}
use Rattle.trace_command.specs.Requests.{request_of}
use Rattle.trace_command.specs.declared.command.CommandOf.TheVariants as commands
use Rattle.tracer.specs.LateReads.{replied}
use Rattle.shared_mount.specs.MountCallers.{Asks, HasFailed, TakesTurn, caller_view, calls, terms_of}
use Rattle.shared_mount.specs.private.MountTurns.{TakenIn}
use Rattle.shared_mount.proofs.CallerLemmas.{asks_turned}
use Rattle.shared_mount.proofs.shared.SharedMount.try_copy.Goals as goal

pub returns-in-Ok-clause-of : goal.returns-in-Ok-clause-of
returns-in-Ok-clause-of c =
    let v = view_of c.into_pass.result in
    let asks : Asks c.args.self.now v = rw c.into_pass.ensures c.requires.asks in
    let held = c.in-Ok.held in
    let t = c.in-Ok.ensures in
    let k = terms_of c.args.self.now in
    let taken : TakenIn v (held_view held) (held_ticket held) (held_value held) k =
    record { turn = record { drawn = t.drawn; finds = t.finds; entries_are = t.entries; base = t.base }; same = sym asks.base } in
    let w = caller_view c.copy_in_turn.result.0 in
    let may = calls (λ found. request_of (commands.Read c.args.path.now c.args.most)) (replied c.copy_in_turn.result.1) in
    record {
      of = c.copy_in_turn.ensures.of;
      asks = asks_turned c.args.self.now v w may c.copy_in_turn.result.2 asks (c.copy_in_turn.ensures.takes v k taken);
    }

pub returns-in-Ok-clause-called : goal.returns-in-Ok-clause-called
returns-in-Ok-clause-called c =
    let v = view_of c.into_pass.result in
    let asks : Asks c.args.self.now v = rw c.into_pass.ensures c.requires.asks in
    let held = c.in-Ok.held in
    let t = c.in-Ok.ensures in
    let k = terms_of c.args.self.now in
    let taken : TakenIn v (held_view held) (held_ticket held) (held_value held) k =
    record { turn = record { drawn = t.drawn; finds = t.finds; entries_are = t.entries; base = t.base }; same = sym asks.base } in
    let w = caller_view c.copy_in_turn.result.0 in
    let is : TakesTurn k v w (calls (λ found. request_of (commands.Read c.args.path.now c.args.most)) (replied c.copy_in_turn.result.1)) c.copy_in_turn.result.2 =
    c.copy_in_turn.ensures.takes v k taken in
    rw c.into_pass.ensures at is

pub returns-in-Err-clause-failed : goal.returns-in-Err-clause-failed
returns-in-Err-clause-failed c =
    let is : HasFailed (view_of c.into_pass.result) c.of.result = c.of.ensures.failed (view_of c.into_pass.result) c.in-Err.ensures.failed in
    rw c.into_pass.ensures at is
