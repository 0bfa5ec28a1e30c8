use Rattle.std.proofs.Common.{◌≡◌, true, false, ◌∙◌, refl, sym, ap, subst}
use Rattle.mount_replies.specs.Mounted.{service_of, terms_of}
use Rattle.mount_replies.specs.ShownTexts.{IsServedOf}
use Rattle.mount_replies.specs.Services.{Terms}
use Rattle.shared_mount.specs.LiveMountSeen.{LiveMountSeen, SharedTerms}
use Rattle.shared_mount.specs.MountEntries.{done_in}
use Rattle.shared_mount.specs.ShownMounts.{IsShownIn}
use Rattle.shared_mount.specs.declared.exchange.Exchange.{Exchange}
use Rattle.shared_mount.proofs.KnownEvents.{fresh_known}
use Rattle.shared_mount.proofs.MountSteps.{Stands, exchange-done, exchange-left, exchange-stands, served-exchanged}
use Rattle.shared_mount.proofs.ShownLemmas.{LeavesOf, exchange-left-of, show-left, show-stands, was-shown}
use Rattle.shared_mount.proofs.live_mount.LiveMount.answer_shown.Goals as goal

pub invariant_of-self : goal.invariant_of-self
invariant_of-self c =
    let entries = c.self.inside.past.items in
    let old = c.self.inside.mount in
    let new = c.answer_shown-is_shown.new.self in
    let bytes = c.answer_shown-is_shown.new.reply.items in
    let left = c.with_shown-self-inside.result.items in
    let shown : IsShownIn (record { mount = terms_of old; limit = c.self.inside.limit }) entries c.args.shown =
    subst (λ (s : LiveMountSeen). IsShownIn s.terms s.entries c.args.shown) (sym c.self.view_is) c.requires.shown in
    let served : IsServedOf true (done_in entries) old new c.args.shown c.args.asked.now bytes =
    rw c.if-is_shown.true at c.answer_shown-is_shown.ensures.served (done_in entries) c.self.invariant.mounted
    (was-shown (record { mount = terms_of old; limit = c.self.inside.limit }) entries c.args.shown shown) in
    let s : Stands c.self.inside.limit left new =
    show-stands c.self.inside.limit entries old new c.of-text.result.value c.args.shown c.args.asked.now c.deref.result.now bytes c.args.ticket c.args.by left
    (record { mounted = c.self.invariant.mounted; led = c.self.invariant.led }) served c.of-text.ensures c.deref.ensures.value
    c.with_shown-self-inside.ensures in
    record { mounted = s.mounted; few = c.self.invariant.few; covers = c.watch-self-inside.ensures.covers; known = fresh_known new.live.config.cpus (done_in left) c.watch-self-inside.result c.watch-self-inside.ensures.events; led = s.led }

pub returns-then-is_shown-clause-left : goal.returns-then-is_shown-clause-left
returns-then-is_shown-clause-left c =
    let entries = c.self.inside.past.items in
    let old = c.self.inside.mount in
    let new = c.answer_shown-is_shown.new.self in
    let bytes = c.answer_shown-is_shown.new.reply.items in
    let left = c.with_shown-self-inside.result.items in
    let shown : IsShownIn (record { mount = terms_of old; limit = c.self.inside.limit }) entries c.args.shown =
    subst (λ (s : LiveMountSeen). IsShownIn s.terms s.entries c.args.shown) (sym c.self.view_is) c.requires.shown in
    let served : IsServedOf true (done_in entries) old new c.args.shown c.args.asked.now bytes =
    rw c.if-is_shown.true at c.answer_shown-is_shown.ensures.served (done_in entries) c.self.invariant.mounted
    (was-shown (record { mount = terms_of old; limit = c.self.inside.limit }) entries c.args.shown shown) in
    subst (λ (s : LiveMountSeen). LeavesOf s.terms s.entries new.owes c.args.shown c.args.asked.now bytes c.args.ticket c.args.by left) c.self.view_is
    (show-left c.self.inside.limit entries old new c.of-text.result.value c.args.shown c.args.asked.now c.deref.result.now bytes c.args.ticket c.args.by left
    (record { mounted = c.self.invariant.mounted; led = c.self.invariant.led }) served c.of-text.ensures c.deref.ensures.value
    c.with_shown-self-inside.ensures)

pub returns-then-is_shown-clause-terms : goal.returns-then-is_shown-clause-terms
returns-then-is_shown-clause-terms c =
    let entries = c.self.inside.past.items in
    let old = c.self.inside.mount in
    let new = c.answer_shown-is_shown.new.self in
    let shown : IsShownIn (record { mount = terms_of old; limit = c.self.inside.limit }) entries c.args.shown =
    subst (λ (s : LiveMountSeen). IsShownIn s.terms s.entries c.args.shown) (sym c.self.view_is) c.requires.shown in
    let served = c.answer_shown-is_shown.ensures.served (done_in entries) c.self.invariant.mounted
    (was-shown (record { mount = terms_of old; limit = c.self.inside.limit }) entries c.args.shown shown) in
    let limit = c.self.inside.limit in
    let same : SharedTerms → Type 0 = λ g. record { mount = terms_of new; limit = limit } ≡ g in
    subst (λ (s : LiveMountSeen). same s.terms) c.self.view_is (ap (λ (g : Terms). record { mount = g; limit = limit }) served.terms)

pub invariant_of-self-2 : goal.invariant_of-self-2
invariant_of-self-2 c =
    let e : Exchange = record {
      past = c.of.result;
      before = c.of-before.result;
      after = c.of-2.result;
      asked = c.bytes_of.result;
      bytes = c.bytes_of-2.result;
    } in
    let past : e.past.value.items ≡ c.self.inside.past.items = rw c.of.ensures refl in
    let new = c.answer_shown-is_shown.new.self in
    let s : Stands c.self.inside.limit c.with_exchange-self-inside.result.items new =
    exchange-stands c.self.inside.limit e c.self.inside.past.items c.self.inside.mount new c.args.ticket c.args.by c.with_exchange-self-inside.result.items
    past c.of-before.ensures c.of-2.ensures (record { mounted = c.self.invariant.mounted; led = c.self.invariant.led })
    c.with_exchange-self-inside.ensures in
    record { mounted = s.mounted; few = c.self.invariant.few; covers = c.watch-self-inside.ensures.covers; known = fresh_known new.live.config.cpus (done_in c.with_exchange-self-inside.result.items) c.watch-self-inside.result c.watch-self-inside.ensures.events; led = s.led }

pub with_exchange-self-inside-requires : goal.with_exchange-self-inside-requires
with_exchange-self-inside-requires c =
    let e : Exchange = record {
      past = c.of.result;
      before = c.of-before.result;
      after = c.of-2.result;
      asked = c.bytes_of.result;
      bytes = c.bytes_of-2.result;
    } in
    let entries = c.self.inside.past.items in
    let old = c.self.inside.mount in
    let new = c.answer_shown-is_shown.new.self in
    let bytes = c.answer_shown-is_shown.new.reply.items in
    let past : e.past.value.items ≡ entries = rw c.of.ensures refl in
    let shown : IsShownIn (record { mount = terms_of old; limit = c.self.inside.limit }) entries c.args.shown =
    subst (λ (s : LiveMountSeen). IsShownIn s.terms s.entries c.args.shown) (sym c.self.view_is) c.requires.shown in
    let is : IsServedOf false (done_in entries) old new c.args.shown c.args.asked.now bytes =
    rw c.if-is_shown.false at c.answer_shown-is_shown.ensures.served (done_in entries) c.self.invariant.mounted
    (was-shown (record { mount = terms_of old; limit = c.self.inside.limit }) entries c.args.shown shown) in
    exchange-done e entries old new c.args.asked.now bytes past c.of-before.ensures c.of-2.ensures c.bytes_of.ensures
    (c.bytes_of-2.ensures ∙ c.deref-2.ensures.value) is.after is.mounted is.terms
    (served-exchanged (terms_of old) (service_of (done_in entries) old) c.args.asked.now bytes (service_of is.after new) c.requires.some is.served.0 is.served.1)

pub returns-clause-left : goal.returns-clause-left
returns-clause-left c =
    let e : Exchange = record {
      past = c.of.result;
      before = c.of-before.result;
      after = c.of-2.result;
      asked = c.bytes_of.result;
      bytes = c.bytes_of-2.result;
    } in
    let entries = c.self.inside.past.items in
    let old = c.self.inside.mount in
    let new = c.answer_shown-is_shown.new.self in
    let bytes = c.answer_shown-is_shown.new.reply.items in
    let left = c.with_exchange-self-inside.result.items in
    let past : e.past.value.items ≡ entries = rw c.of.ensures refl in
    subst (λ (s : LiveMountSeen). LeavesOf s.terms s.entries new.owes c.args.shown c.args.asked.now bytes c.args.ticket c.args.by left) c.self.view_is
    (exchange-left-of c.self.inside.limit entries old new c.args.shown c.args.asked.now bytes c.args.ticket c.args.by left
    (exchange-left c.self.inside.limit e entries old new c.args.asked.now bytes c.args.ticket c.args.by left past c.of-before.ensures c.of-2.ensures
    c.bytes_of.ensures (c.bytes_of-2.ensures ∙ c.deref-2.ensures.value) (record { mounted = c.self.invariant.mounted; led = c.self.invariant.led })
    c.with_exchange-self-inside.ensures))
