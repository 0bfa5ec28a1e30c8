use Rattle.std.proofs.Common.{ℕ, ◌+◌, ap, ◌∙◌, sym}
use Rattle.ticket_lock.specs.Calls.{held_view, held_ticket, held_value}
use Rattle.shared_mount.specs.MountCallers.{Asks, caller_view, line_view, terms_of}
use Rattle.shared_mount.specs.private.MountTurns.{TakenIn}
use Rattle.shared_mount.proofs.ShownLemmas.{asks_shown, shown-found}
use Rattle.shared_mount.proofs.shared.SharedMount.answer_shown_in_line.Goals as goal

pub show_in_turn-requires-clause-shown : goal.show_in_turn-requires-clause-shown
show_in_turn-requires-clause-shown c =
    let v = line_view c.args.line in
    let asks : Asks c.args.self.now v = c.requires.of.asks in
    let held = c.in-Ok.held in
    let t = c.in-Ok.ensures in
    let k = terms_of c.args.self.now in
    let taken : TakenIn v (held_view held) (held_ticket held) (held_value held) k =
    record { turn = record { drawn = t.drawn; finds = t.finds; entries_are = t.entries; base = t.base }; same = sym asks.base } in
    shown-found v (held_view held) (held_ticket held) (held_value held) k c.args.shown taken c.requires.shown

pub returns-in-Ok-clause-of : goal.returns-in-Ok-clause-of
returns-in-Ok-clause-of c =
    let v = line_view c.args.line in
    let asks : Asks c.args.self.now v = c.requires.of.asks in
    let held = c.in-Ok.held in
    let t = c.in-Ok.ensures in
    let k = terms_of c.args.self.now in
    let taken : TakenIn v (held_view held) (held_ticket held) (held_value held) k =
    record { turn = record { drawn = t.drawn; finds = t.finds; entries_are = t.entries; base = t.base }; same = sym asks.base } in
    let w = caller_view c.show_in_turn.result.0 in
    record {
      of = c.show_in_turn.ensures.of;
      asks = asks_shown c.args.self.now c.args.shown c.args.asked.now c.show_in_turn.new.reply.items v w c.show_in_turn.result.1 asks
          (c.show_in_turn.ensures.serves v k taken);
    }

pub returns-in-Ok-clause-serves : goal.returns-in-Ok-clause-serves
returns-in-Ok-clause-serves c =
    let v = line_view c.args.line in
    let asks : Asks c.args.self.now v = c.requires.of.asks in
    let held = c.in-Ok.held in
    let t = c.in-Ok.ensures in
    let k = terms_of c.args.self.now in
    let taken : TakenIn v (held_view held) (held_ticket held) (held_value held) k =
    record { turn = record { drawn = t.drawn; finds = t.finds; entries_are = t.entries; base = t.base }; same = sym asks.base } in
    c.show_in_turn.ensures.serves v k taken

pub returns-in-Ok-clause-ticket : goal.returns-in-Ok-clause-ticket
returns-in-Ok-clause-ticket c = c.show_in_turn.ensures.ticket ∙ ap (λ (n : ℕ). n + 1) c.in-Ok.ensures.ticket
