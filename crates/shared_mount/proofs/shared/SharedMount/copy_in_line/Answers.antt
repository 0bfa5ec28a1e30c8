use Rattle.std.proofs.Common.{ℕ, ◌+◌, ap, ◌∙◌, sym}
use Rattle.ticket_lock.specs.Calls.{held_view, held_ticket, held_value}
use Rattle.trace_command.specs.Requests.{request_of}
use Rattle.trace_command.specs.declared.command.CommandOf.TheVariants as commands
use Rattle.tracer.specs.LateReads.{replied}
use Rattle.shared_mount.specs.MountCallers.{Asks, caller_view, calls, line_view, terms_of}
use Rattle.shared_mount.specs.private.MountTurns.{TakenIn}
use Rattle.shared_mount.proofs.CallerLemmas.{asks_turned}
use Rattle.shared_mount.proofs.shared.SharedMount.copy_in_line.Goals as goal

pub returns-in-Ok-clause-of : goal.returns-in-Ok-clause-of
returns-in-Ok-clause-of c =
    let v = line_view c.args.line in
    let asks : Asks c.args.self.now v = c.requires.asks in
    let held = c.in-Ok.held in
    let t = c.in-Ok.ensures in
    let k = terms_of c.args.self.now in
    let taken : TakenIn v (held_view held) (held_ticket held) (held_value held) k =
    record { turn = record { drawn = t.drawn; finds = t.finds; entries_are = t.entries; base = t.base }; same = sym asks.base } in
    let w = caller_view c.copy_in_turn.result.0 in
    let may = calls (λ found. request_of (commands.Read c.args.path.now c.args.most)) (replied c.copy_in_turn.result.1) in
    record {
      of = c.copy_in_turn.ensures.of;
      asks = asks_turned c.args.self.now v w may c.copy_in_turn.result.2 asks (c.copy_in_turn.ensures.takes v k taken);
    }

pub returns-in-Ok-clause-called : goal.returns-in-Ok-clause-called
returns-in-Ok-clause-called c =
    let v = line_view c.args.line in
    let asks : Asks c.args.self.now v = c.requires.asks in
    let held = c.in-Ok.held in
    let t = c.in-Ok.ensures in
    let k = terms_of c.args.self.now in
    let taken : TakenIn v (held_view held) (held_ticket held) (held_value held) k =
    record { turn = record { drawn = t.drawn; finds = t.finds; entries_are = t.entries; base = t.base }; same = sym asks.base } in
    c.copy_in_turn.ensures.takes v k taken

pub returns-in-Ok-clause-ticket : goal.returns-in-Ok-clause-ticket
returns-in-Ok-clause-ticket c = c.copy_in_turn.ensures.ticket ∙ ap (λ (n : ℕ). n + 1) c.in-Ok.ensures.ticket
