use Rattle.std.proofs.Common.{List, Option, subst, ap, ◌∙◌}
use Rattle.mount_replies.specs.Watches.{slots_of}
use Rattle.mount_replies.specs.contracts.mount.Mount.{the_view}
use Rattle.mount_replies.specs.declared.dry_pipes.DryPipe.{DryPipe}
use Rattle.mount_replies.specs.private.DryPipes.{AreDryNow}
use Rattle.mount_replies.proofs.WatchLemmas.{none-while-dry}
use Rattle.mount_replies.proofs.mount.Mount.look_at_watched.Goals as goal

pub returns-then-are_dry-clause-owes : goal.returns-then-are_dry-clause-owes
returns-then-are_dry-clause-owes c =
    let covers = rw (← c.self.view_is) at c.requires.covers in
    let dry = rw (← c.self.view_is) at c.are_dry.ensures c.if-are_dry.true in
    rw (← c.self.view_is) (λ past led.
    let old = the_view c.self.inside in
    none-while-dry past old c.args.watch.now.slots led covers
    (subst (λ (slots : List (Option DryPipe)). AreDryNow old slots) (c.slots.ensures ∙ ap slots_of c.watch.view_is) dry)
    (c.may_wake.ensures c.if-not-may_wake.true))

pub returns-then-are_dry-clause-known : goal.returns-then-are_dry-clause-known
returns-then-are_dry-clause-known c =
    rw (← c.self.view_is) (λ past led known. c.ask_wanted.ensures.known past (record { lives = led.lives; scene = led.scene }) known)
