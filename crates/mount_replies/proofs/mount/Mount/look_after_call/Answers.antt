use Rattle.std.proofs.Common.{◌≡◌, length, rules, sym, ◌∙◌}
use Rattle.std.proofs.lemmas.Bool.{eqb-true}
use Rattle.std.specs.Vec.{vec_len}
use Rattle.mount_replies.specs.contracts.mount.Mount.{the_view}
use Rattle.mount_replies.proofs.CallLemmas.{none-after}
use Rattle.mount_replies.proofs.mount.Mount.look_after_call.Goals as goal

pub returns-then-not-may_wake-clause-owes : goal.returns-then-not-may_wake-clause-owes
returns-then-not-may_wake-clause-owes c =
    let same : length c.self.inside.parked.items ≡ vec_len c.self.inside.parked = search rules in
    rw (← c.self.view_is) (λ past mounted.
    none-after past (the_view c.self.inside) (same ∙ eqb-true (vec_len c.self.inside.parked) 0 (sym c.is_empty.ensures ∙ c.if-is_empty.true))
    (c.may_wake.ensures c.if-not-may_wake.true))
