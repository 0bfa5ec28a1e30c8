use Rattle.std.proofs.Common.{◌<◌, ◌≤◌, length, rules, sym, ap, ◌∙◌}
use Rattle.mount_replies.specs.Mounted.{service_of, terms_of}
use Rattle.mount_replies.specs.Owed.{is_due}
use Rattle.mount_replies.specs.contracts.mount.Mount.{the_view}
use Rattle.mount_replies.proofs.Firsts.{first-at, none-in-all}
use Rattle.mount_replies.proofs.mount.Mount.next_due.Goals as goal

pub returns-then-is_due-clause-is : goal.returns-then-is_due-clause-is
returns-then-is_due-clause-is c =
    let invariant = rw (← c.self.view_is) at c.loop-index.invariant.0 in
    let due = rw (← c.self.view_is) at c.is_due.ensures.is in
    rw (← c.self.view_is) (λ past mounted.
    let old = the_view c.self.inside in
    let within : c.loop-index.index < length old.parked = search rules in
    sym (first-at (is_due (terms_of old) (service_of past old)) old.parked c.loop-index.index c.index.result.now within
    (ap (is_due (terms_of old) (service_of past old)) (sym c.index.ensures) ∙ sym (due past mounted) ∙ c.if-is_due.true) (invariant past mounted)))

pub returns-clause-is : goal.returns-clause-is
returns-clause-is c =
    let invariant = rw (← c.self.view_is) at c.loop-index.invariant.0 in
    rw (← c.self.view_is) (λ past mounted.
    let old = the_view c.self.inside in
    let end : length old.parked ≤ c.loop-index.index = search rules in
    sym (none-in-all (is_due (terms_of old) (service_of past old)) old.parked c.loop-index.index end (invariant past mounted)))
