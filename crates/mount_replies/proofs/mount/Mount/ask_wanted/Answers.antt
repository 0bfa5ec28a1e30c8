use Rattle.std.proofs.Common.{List, Option, subst, sym}
use Rattle.mount_replies.specs.Watches.{AreKnown, IsUnwanted, WatchSeen}
use Rattle.mount_replies.specs.declared.dry_pipes.DryPipe.{DryPipe}
use Rattle.mount_replies.specs.declared.wanted_events.Wanted.{Wanted}
use Rattle.mount_replies.proofs.WatchLemmas.{known-noted}
use Rattle.mount_replies.proofs.mount.Mount.ask_wanted.Goals as goal

pub returns-clause-known : goal.returns-clause-known
returns-clause-known c = λ past led known.
    let cpus = c.args.self.now.live.config.cpus in
    let slots = c.watch.inside.pipes in
    let before : AreKnown cpus past (record { slots = slots; events = c.watch.inside.events }) =
    subst (λ (watch : WatchSeen). AreKnown cpus past watch) (sym c.watch.view_is) known in
    subst (λ (events : List Wanted). AreKnown cpus past (record { slots = slots; events = events })) (sym c.note.ensures)
    (known-noted cpus past slots c.watch.inside.events c.args.number c.wanted_by-wanted.result before
    (λ nowhere. subst (λ (s : List (Option DryPipe)). IsUnwanted cpus past s c.args.number) c.slots.ensures (c.wanted_by-wanted.ensures past led nowhere)))
