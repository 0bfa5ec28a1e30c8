use Rattle.std.proofs.Common.{◌≡◌, List, [], ◌∷◌, ◌++◌, ◌∙◌, refl, subst}
use Rattle.trace_command.specs.Requests.{Request}
use Rattle.shared_mount.specs.MountEntries.{DidExchange, done_in}
use Rattle.shared_mount.specs.LiveMountSeen.{LiveMountSeen}
use Rattle.shared_mount.specs.MountHistories.{IsNext}
use Rattle.shared_mount.specs.declared.exchange.Exchange.{Exchange}
use Rattle.shared_mount.proofs.KnownEvents.{fresh_known}
use Rattle.shared_mount.proofs.MountSteps.{Stands, exchange-done, exchange-left, exchange-stands}
use Rattle.shared_mount.proofs.live_mount.LiveMount.tell_owed.Goals as goal

pub invariant_of-self : goal.invariant_of-self
invariant_of-self c =
    let e : Exchange = record {
      past = c.of.result;
      before = c.of-before.result;
      after = c.of-2.result;
      asked = c.bytes_of.result;
      bytes = c.bytes_of-2.result;
    } in
    let past : e.past.value.items ≡ c.self.inside.past.items = rw c.of.ensures refl in
    let s : Stands c.self.inside.limit c.with_exchange-self-inside.result.items c.tell_owed.new.self =
    exchange-stands c.self.inside.limit e c.self.inside.past.items c.self.inside.mount c.tell_owed.new.self c.args.ticket c.args.by c.with_exchange-self-inside.result.items
    past c.of-before.ensures c.of-2.ensures (record { mounted = c.self.invariant.mounted; led = c.self.invariant.led })
    c.with_exchange-self-inside.ensures in
    record { mounted = s.mounted; few = c.self.invariant.few; covers = c.watch-self-inside.ensures.covers; known = fresh_known c.tell_owed.new.self.live.config.cpus (done_in c.with_exchange-self-inside.result.items) c.watch-self-inside.result c.watch-self-inside.ensures.events; led = s.led }

pub with_exchange-self-inside-requires : goal.with_exchange-self-inside-requires
with_exchange-self-inside-requires c =
    let e : Exchange = record {
      past = c.of.result;
      before = c.of-before.result;
      after = c.of-2.result;
      asked = c.bytes_of.result;
      bytes = c.bytes_of-2.result;
    } in
    let entries = c.self.inside.past.items in
    let old = c.self.inside.mount in
    let new = c.tell_owed.new.self in
    let bytes = c.tell_owed.new.reply.items in
    let past : e.past.value.items ≡ entries = rw c.of.ensures refl in
    let is = c.tell_owed.ensures.told (done_in entries) c.self.invariant.mounted in
    exchange-done e entries old new [] bytes past c.of-before.ensures c.of-2.ensures c.bytes_of.ensures
    (c.bytes_of-2.ensures ∙ c.deref.ensures.value) is.after is.mounted is.terms is.told

pub returns-clause-left : goal.returns-clause-left
returns-clause-left c =
    let e : Exchange = record {
      past = c.of.result;
      before = c.of-before.result;
      after = c.of-2.result;
      asked = c.bytes_of.result;
      bytes = c.bytes_of-2.result;
    } in
    let entries = c.self.inside.past.items in
    let bytes = c.tell_owed.new.reply.items in
    let left = c.with_exchange-self-inside.result.items in
    let past : e.past.value.items ≡ entries = rw c.of.ensures refl in
    subst
    (λ (s : LiveMountSeen). (commands : List Request)
    × (left ≡ s.entries ++ record { ticket = c.args.ticket; by = c.args.by; deed = DidExchange [] bytes commands } ∷ [])
    × IsNext s.terms s.entries (DidExchange [] bytes commands) c.tell_owed.new.self.owes)
    c.self.view_is
    (exchange-left c.self.inside.limit e entries c.self.inside.mount c.tell_owed.new.self [] bytes c.args.ticket c.args.by left past c.of-before.ensures c.of-2.ensures
    c.bytes_of.ensures (c.bytes_of-2.ensures ∙ c.deref.ensures.value) (record { mounted = c.self.invariant.mounted; led = c.self.invariant.led })
    c.with_exchange-self-inside.ensures)
