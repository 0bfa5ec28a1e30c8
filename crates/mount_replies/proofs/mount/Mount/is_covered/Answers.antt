use Rattle.std.proofs.Common.{◌<◌, ◌≤◌, length, rules, subst, sym}
use Rattle.std.proofs.lemmas.List.{take_all}
use Rattle.std.proofs.lemmas.List.Elements.{All-more, All-same}
use Rattle.mount_replies.specs.Watches.{IsWatched}
use Rattle.mount_replies.specs.contracts.mount.Mount.{the_view}
use Rattle.mount_replies.proofs.mount.Mount.is_covered.Goals as goal

pub loop-index-preserved : goal.loop-index-preserved
loop-index-preserved c =
    let invariant = rw (← c.self.view_is) at c.loop-index.invariant in
    let watched = rw (← c.self.view_is) at c.is_watched.ensures c.if-not-is_watched.false in
    rw (← c.self.view_is) (
    let old = the_view c.self.inside in
    let within : c.loop-index.index < length old.parked = search rules in
    All-more (IsWatched old.files c.args.pipes.now) old.parked c.loop-index.index c.index.result.now within invariant
    (subst (IsWatched old.files c.args.pipes.now) c.index.ensures watched)
    )

pub returns : goal.returns
returns c =
    let invariant = rw (← c.self.view_is) at c.loop-index.invariant in
    rw (← c.self.view_is) (λ is.
    let old = the_view c.self.inside in
    let end : length old.parked ≤ c.loop-index.index = search rules in
    All-same (IsWatched old.files c.args.pipes.now) old.parked _ (sym (take_all c.loop-index.index old.parked end)) invariant)
