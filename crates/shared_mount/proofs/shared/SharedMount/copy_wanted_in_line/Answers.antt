use Rattle.std.proofs.Common.{ℕ, ◌+◌, ap, ◌∙◌, sym}
use Rattle.ticket_lock.specs.Calls.{held_view, held_ticket, held_value}
use Rattle.shared_mount.specs.MountCallers.{Asks, caller_view, line_view, terms_of}
use Rattle.shared_mount.specs.private.MountTurns.{TakenIn}
use Rattle.shared_mount.proofs.CallerLemmas.{asks_idle}
use Rattle.shared_mount.proofs.shared.SharedMount.copy_wanted_in_line.Goals as goal

pub returns-in-Ok-clause-of : goal.returns-in-Ok-clause-of
returns-in-Ok-clause-of c =
    let v = line_view c.args.line in
    let asks : Asks c.args.self.now v = c.requires.asks in
    let held = c.in-Ok.held in
    let t = c.in-Ok.ensures in
    let k = terms_of c.args.self.now in
    let taken : TakenIn v (held_view held) (held_ticket held) (held_value held) k =
    record { turn = record { drawn = t.drawn; finds = t.finds; entries_are = t.entries; base = t.base }; same = sym asks.base } in
    let w = caller_view c.copy_wanted_in_turn.result.0 in
    record { of = c.copy_wanted_in_turn.ensures.of; asks = asks_idle c.args.self.now v w asks (c.copy_wanted_in_turn.ensures.idle v k taken) }

pub returns-in-Ok-clause-idle : goal.returns-in-Ok-clause-idle
returns-in-Ok-clause-idle c =
    let v = line_view c.args.line in
    let asks : Asks c.args.self.now v = c.requires.asks in
    let held = c.in-Ok.held in
    let t = c.in-Ok.ensures in
    let k = terms_of c.args.self.now in
    let taken : TakenIn v (held_view held) (held_ticket held) (held_value held) k =
    record { turn = record { drawn = t.drawn; finds = t.finds; entries_are = t.entries; base = t.base }; same = sym asks.base } in
    c.copy_wanted_in_turn.ensures.idle v k taken

pub returns-in-Ok-clause-copied : goal.returns-in-Ok-clause-copied
returns-in-Ok-clause-copied c =
    let v = line_view c.args.line in
    let asks : Asks c.args.self.now v = c.requires.asks in
    let held = c.in-Ok.held in
    let t = c.in-Ok.ensures in
    let k = terms_of c.args.self.now in
    let taken : TakenIn v (held_view held) (held_ticket held) (held_value held) k =
    record { turn = record { drawn = t.drawn; finds = t.finds; entries_are = t.entries; base = t.base }; same = sym asks.base } in
    c.copy_wanted_in_turn.ensures.copied v k taken

pub returns-in-Ok-clause-ticket : goal.returns-in-Ok-clause-ticket
returns-in-Ok-clause-ticket c = c.copy_wanted_in_turn.ensures.ticket ∙ ap (λ (n : ℕ). n + 1) c.in-Ok.ensures.ticket
