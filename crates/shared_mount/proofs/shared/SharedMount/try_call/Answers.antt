use Rattle.std.proofs.Common.{sym}
use Rattle.ticket_lock.specs.Calls.{view_of, held_view, held_ticket, held_value, IsWorn}
use Rattle.mount_replies.specs.Calls.{answer_of}
use Rattle.shared_mount.specs.AskedRequests.{request_after}
use Rattle.shared_mount.specs.MountCallers.{Asks, HasNoTurn, TakesTurn, caller_view, calls, terms_of}
use Rattle.shared_mount.specs.private.MountTurns.{TakenIn}
use Rattle.shared_mount.proofs.CallerLemmas.{asks_looked, asks_turned, asks_worn}
use Rattle.shared_mount.proofs.shared.SharedMount.try_call.Goals as goal

pub returns-in-Ok-clause-of : goal.returns-in-Ok-clause-of
returns-in-Ok-clause-of g c =
    let v = view_of c.into_pass.result in
    let asks : Asks c.args.self.now v = rw c.into_pass.ensures c.requires.asks in
    let held = c.in-Ok.held in
    let t = c.in-Ok.ensures in
    let k = terms_of c.args.self.now in
    let taken : TakenIn v (held_view held) (held_ticket held) (held_value held) k =
    record { turn = record { drawn = t.drawn; finds = t.finds; entries_are = t.entries; base = t.base }; same = sym asks.base } in
    let called = c.call_in_turn-caller in
    let may = calls (λ found. request_after found c.args.asked) (answer_of called.result.1.is_done called.new.answer) in
    record {
      of = called.ensures.of;
      asks = asks_turned c.args.self.now v (caller_view called.result.0) may called.result.1.owes asks (called.ensures.takes v k taken);
    }

pub returns-in-Ok-clause-called : goal.returns-in-Ok-clause-called
returns-in-Ok-clause-called g c =
    let v = view_of c.into_pass.result in
    let asks : Asks c.args.self.now v = rw c.into_pass.ensures c.requires.asks in
    let held = c.in-Ok.held in
    let t = c.in-Ok.ensures in
    let k = terms_of c.args.self.now in
    let taken : TakenIn v (held_view held) (held_ticket held) (held_value held) k =
    record { turn = record { drawn = t.drawn; finds = t.finds; entries_are = t.entries; base = t.base }; same = sym asks.base } in
    let called = c.call_in_turn-caller in
    let may = calls (λ found. request_after found c.args.asked) (answer_of called.result.1.is_done called.new.answer) in
    let is : TakesTurn k v (caller_view called.result.0) may called.result.1.owes = called.ensures.takes v k taken in
    rw c.into_pass.ensures at is

pub returns-in-Ok-clause-looked : goal.returns-in-Ok-clause-looked
returns-in-Ok-clause-looked g c =
    let v = view_of c.into_pass.result in
    let asks : Asks c.args.self.now v = rw c.into_pass.ensures c.requires.asks in
    let held = c.in-Ok.held in
    let t = c.in-Ok.ensures in
    let k = terms_of c.args.self.now in
    let taken : TakenIn v (held_view held) (held_ticket held) (held_value held) k =
    record { turn = record { drawn = t.drawn; finds = t.finds; entries_are = t.entries; base = t.base }; same = sym asks.base } in
    c.call_in_turn-caller.ensures.looked v k taken

pub returns-in-Err-Busy-clause-of : goal.returns-in-Err-Busy-clause-of
returns-in-Err-Busy-clause-of g c =
    let v = view_of c.into_pass.result in
    let asks : Asks c.args.self.now v = rw c.into_pass.ensures c.requires.asks in
    let failed : HasNoTurn v (view_of c.in-Err-Busy.pass) = rw c.in-Err-Busy.field-0-is at c.in-Err-Busy.ensures.failed in
    record { of = rw c.in-Err-Busy.field-0-is at c.in-Err-Busy.ensures.of; asks = asks_looked c.args.self.now v (view_of c.in-Err-Busy.pass) failed.0 asks }

pub returns-in-Err-Busy-clause-missed : goal.returns-in-Err-Busy-clause-missed
returns-in-Err-Busy-clause-missed g c =
    let failed : HasNoTurn (view_of c.into_pass.result) (view_of c.in-Err-Busy.pass) = rw c.in-Err-Busy.field-0-is at c.in-Err-Busy.ensures.failed in
    rw c.into_pass.ensures at failed

pub returns-in-Err-Worn-clause-of : goal.returns-in-Err-Worn-clause-of
returns-in-Err-Worn-clause-of g c =
    let v = view_of c.into_pass.result in
    let asks : Asks c.args.self.now v = rw c.into_pass.ensures c.requires.asks in
    let w = view_of c.in-Err-Worn.worn.pass in
    let failed : IsWorn v w = rw c.in-Err-Worn.field-0-is at c.in-Err-Worn.ensures.failed in
    record { of = rw c.in-Err-Worn.field-0-is at c.in-Err-Worn.ensures.of; asks = asks_worn c.args.self.now v w failed asks }

pub returns-in-Err-Worn-clause-missed : goal.returns-in-Err-Worn-clause-missed
returns-in-Err-Worn-clause-missed g c =
    let failed : IsWorn (view_of c.into_pass.result) (view_of c.in-Err-Worn.worn.pass) = rw c.in-Err-Worn.field-0-is at c.in-Err-Worn.ensures.failed in
    rw c.into_pass.ensures at failed
