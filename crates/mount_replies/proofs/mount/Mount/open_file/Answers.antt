use Rattle.std.proofs.Common.{true, false, sym, ap, ◌∙◌}
use Rattle.mount_replies.specs.Served.{AsksToWrite}
use Rattle.mount_replies.specs.Services.{just_opened}
use Rattle.mount_replies.specs.Told.{empties}
use Rattle.mount_replies.specs.contracts.mount.Mount.{the_view}
use Rattle.mount_replies.proofs.OpenLemmas.{asked-there, by-emptying, no-leave, opened-step, unasked, unopened}
use Rattle.mount_replies.proofs.mount.Mount.open_file.Goals as goal
use Rattle.mount_replies.proofs.mount.Mount.open_file.Goals.{in-Ok, in-Err}

pub open_emptied-requires : goal.open_emptied-requires
open_emptied-requires c =
    asked-there c.args.self.now.scene c.args.owner c.args.file c.in-Some.emptying.file (empties c.args.flags) c.in-Some.emptying.text.now c.in-Some.ensures
    c.requires

pub returns-then-not-may_open-clause-step : goal.returns-then-not-may_open-clause-step
returns-then-not-may_open-clause-step c = λ past mounted.
    no-leave past c.args.self.now c.args.flags c.args.owner c.args.file mounted (sym c.may_open.ensures ∙ c.if-not-may_open.true)

pub returns-in-Some-clause-step : goal.returns-in-Some-clause-step
returns-in-Some-clause-step c = λ past mounted.
    by-emptying past c.args.self.now c.open_emptied.new.self c.args.flags c.args.owner c.args.file c.open_emptied.result
    (AsksToWrite c.in-Some.emptying.file c.in-Some.emptying.text.now) (sym c.may_open.ensures ∙ c.if-not-may_open.false) c.in-Some.ensures
    (c.open_emptied.ensures.step past mounted)

pub returns-then-clears-clause-step : goal.returns-then-clears-clause-step
returns-then-clears-clause-step c = λ past mounted.
    unasked past c.args.self.now c.open_clearing.new.self c.args.flags c.args.owner c.args.file c.open_clearing.result true
    (sym c.may_open.ensures ∙ c.if-not-may_open.false) c.in_default.ensures (sym c.clears.ensures ∙ c.if-clears.true)
    (c.open_clearing.ensures.step past mounted)

pub returns-clause-step : goal.returns-clause-step
returns-clause-step c =
    rw (← c.self.view_is) (λ past mounted.
    let old = the_view c.self.inside in
    unasked past old (record old { files = c.open.new.self }) c.args.flags c.args.owner c.args.file c.match-open.result false
    (sym c.may_open.ensures ∙ c.if-not-may_open.false) c.in_default.ensures (sym c.clears.ensures ∙ c.if-clears.false) (elim c.match-open.branch [
      | in-Ok w ↦
          opened-step past old (just_opened c.args.owner c.args.file (empties c.args.flags)) c.new-open_file.result w.in-Ok.handle w.open_flags.result
          w.kind.result c.open.new.self c.match-open.result mounted w.in-Ok.ensures.handle w.in-Ok.ensures.ok
          (c.new-open_file.ensures ∙ ap (just_opened c.args.owner c.args.file) c.empties.ensures) w.open_flags.ensures w.kind.ensures w.result-is
      | in-Err w ↦ unopened past old _ c.open.new.self c.match-open.result mounted w.in-Err.ensures.err w.result-is
    ]))
