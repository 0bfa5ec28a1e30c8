use Rattle.std.proofs.Common.{sym}
use Rattle.ticket_lock.specs.Calls.{view_of, held_view, held_ticket, held_value}
use Rattle.shared_mount.specs.MountCallers.{Asks, HasFailed, caller_view, terms_of}
use Rattle.shared_mount.specs.ShownMounts.{IsShownIn, ServesOf}
use Rattle.shared_mount.specs.private.MountTurns.{TakenIn}
use Rattle.shared_mount.proofs.ShownLemmas.{asks_shown, shown-found}
use Rattle.shared_mount.proofs.shared.SharedMount.try_answer_shown.Goals as goal

pub show_in_turn-requires-clause-shown : goal.show_in_turn-requires-clause-shown
show_in_turn-requires-clause-shown c =
    let v = view_of c.into_pass.result in
    let asks : Asks c.args.self.now v = rw c.into_pass.ensures c.requires.of.asks in
    let held = c.in-Ok.held in
    let t = c.in-Ok.ensures in
    let k = terms_of c.args.self.now in
    let taken : TakenIn v (held_view held) (held_ticket held) (held_value held) k =
    record { turn = record { drawn = t.drawn; finds = t.finds; entries_are = t.entries; base = t.base }; same = sym asks.base } in
    let shown : IsShownIn k v.seen c.args.shown = rw c.into_pass.ensures c.requires.shown in
    shown-found v (held_view held) (held_ticket held) (held_value held) k c.args.shown taken shown

pub returns-in-Ok-clause-of : goal.returns-in-Ok-clause-of
returns-in-Ok-clause-of c =
    let v = view_of c.into_pass.result in
    let asks : Asks c.args.self.now v = rw c.into_pass.ensures c.requires.of.asks in
    let held = c.in-Ok.held in
    let t = c.in-Ok.ensures in
    let k = terms_of c.args.self.now in
    let taken : TakenIn v (held_view held) (held_ticket held) (held_value held) k =
    record { turn = record { drawn = t.drawn; finds = t.finds; entries_are = t.entries; base = t.base }; same = sym asks.base } in
    let w = caller_view c.show_in_turn.result.0 in
    record {
      of = c.show_in_turn.ensures.of;
      asks = asks_shown c.args.self.now c.args.shown c.args.asked.now c.show_in_turn.new.reply.items v w c.show_in_turn.result.1 asks
          (c.show_in_turn.ensures.serves v k taken);
    }

pub returns-in-Ok-clause-serves : goal.returns-in-Ok-clause-serves
returns-in-Ok-clause-serves c =
    let v = view_of c.into_pass.result in
    let asks : Asks c.args.self.now v = rw c.into_pass.ensures c.requires.of.asks in
    let held = c.in-Ok.held in
    let t = c.in-Ok.ensures in
    let k = terms_of c.args.self.now in
    let taken : TakenIn v (held_view held) (held_ticket held) (held_value held) k =
    record { turn = record { drawn = t.drawn; finds = t.finds; entries_are = t.entries; base = t.base }; same = sym asks.base } in
    let w = caller_view c.show_in_turn.result.0 in
    let is : ServesOf k c.args.shown c.args.asked.now c.show_in_turn.new.reply.items v w c.show_in_turn.result.1 = c.show_in_turn.ensures.serves v k taken in
    rw c.into_pass.ensures at is

pub returns-in-Err-clause-failed : goal.returns-in-Err-clause-failed
returns-in-Err-clause-failed c =
    let is : HasFailed (view_of c.into_pass.result) c.of.result = c.of.ensures.failed (view_of c.into_pass.result) c.in-Err.ensures.failed in
    let failed : HasFailed (caller_view c.args.caller) c.of.result = rw c.into_pass.ensures at is in (failed, c.requires.empty)
