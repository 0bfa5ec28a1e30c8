use Rattle.std.proofs.Common.{sym}
use Rattle.ticket_lock.specs.Calls.{view_of, held_view, held_ticket, held_value}
use Rattle.shared_mount.specs.MountCallers.{Asks, HasFailed, IsLookedAt, caller_view, terms_of}
use Rattle.shared_mount.specs.private.MountTurns.{TakenIn}
use Rattle.shared_mount.proofs.CallerLemmas.{asks_idle}
use Rattle.shared_mount.proofs.shared.SharedMount.try_look.Goals as goal

pub returns-in-Ok-clause-of : goal.returns-in-Ok-clause-of
returns-in-Ok-clause-of g c =
    let v = view_of c.into_pass.result in
    let asks : Asks c.args.self.now v = rw c.into_pass.ensures c.requires.asks in
    let held = c.in-Ok.held in
    let t = c.in-Ok.ensures in
    let k = terms_of c.args.self.now in
    let taken : TakenIn v (held_view held) (held_ticket held) (held_value held) k =
    record { turn = record { drawn = t.drawn; finds = t.finds; entries_are = t.entries; base = t.base }; same = sym asks.base } in
    let w = caller_view c.look_in_turn.result.0 in
    record { of = c.look_in_turn.ensures.of; asks = asks_idle c.args.self.now v w asks (c.look_in_turn.ensures.looked v k taken).idle }

pub returns-in-Ok-clause-looked : goal.returns-in-Ok-clause-looked
returns-in-Ok-clause-looked g c =
    let v = view_of c.into_pass.result in
    let asks : Asks c.args.self.now v = rw c.into_pass.ensures c.requires.asks in
    let held = c.in-Ok.held in
    let t = c.in-Ok.ensures in
    let k = terms_of c.args.self.now in
    let taken : TakenIn v (held_view held) (held_ticket held) (held_value held) k =
    record { turn = record { drawn = t.drawn; finds = t.finds; entries_are = t.entries; base = t.base }; same = sym asks.base } in
    let w = caller_view c.look_in_turn.result.0 in
    let is : IsLookedAt k (g.L.Look.tells c.args.look.now) v w c.look_in_turn.result.1 = c.look_in_turn.ensures.looked v k taken in
    rw c.into_pass.ensures at is

pub returns-in-Err-clause-failed : goal.returns-in-Err-clause-failed
returns-in-Err-clause-failed g c =
    let is : HasFailed (view_of c.into_pass.result) c.of.result = c.of.ensures.failed (view_of c.into_pass.result) c.in-Err.ensures.failed in
    rw c.into_pass.ensures at is
