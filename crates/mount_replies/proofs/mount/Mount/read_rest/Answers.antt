use Rattle.std.proofs.Common.{Option, List, ℕ, [], unwrap_or, ap, ◌∙◌}
use Rattle.mount_replies.specs.contracts.mount.Mount.{the_view}
use Rattle.mount_replies.proofs.ReadLemmas.{rest-told}
use Rattle.mount_replies.proofs.mount.Mount.read_rest.Goals as goal

pub returns-clause-told : goal.returns-clause-told
returns-clause-told c =
    rw (← c.self.view_is) (λ past text mounted has.
    rest-told past (the_view c.self.inside) c.args.read.handle c.args.read.size c.min.result text c.rest-text.result.now c.give.new.self c.args.read.unique
    c.tell_part.new.out.items mounted has (c.rest-text.ensures ∙ ap (λ (o : Option (List ℕ)). unwrap_or o []) has) c.min.ensures c.give.ensures
    c.tell_part.ensures.bytes)
