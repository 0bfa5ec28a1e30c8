use Rattle.std.proofs.Common.{◌<◌, ◌≤◌, None, length, rules, sym, ap, ◌∙◌}
use Rattle.mount_replies.specs.Mounted.{service_of, terms_of}
use Rattle.mount_replies.specs.Owed.{is_ready}
use Rattle.mount_replies.specs.contracts.mount.Mount.{the_view}
use Rattle.mount_replies.proofs.Firsts.{first-at, no-first, none-in-all, one-more}
use Rattle.mount_replies.proofs.PipeLemmas.{file-at, not-ready}
use Rattle.mount_replies.proofs.mount.Mount.next_ready.Goals as goal

pub returns-then-not-may_wake : goal.returns-then-not-may_wake
returns-then-not-may_wake c =
    rw (← c.self.view_is) (λ past mounted.
    sym (no-first (is_ready (terms_of (the_view c.self.inside)) (service_of past (the_view c.self.inside))) c.self.inside.files
    (not-ready (terms_of (the_view c.self.inside)) (service_of past (the_view c.self.inside)) c.self.inside.files
    (c.may_wake.ensures c.if-not-may_wake.true))))

pub returns-then-is_ready : goal.returns-then-is_ready
returns-then-is_ready c = λ past mounted.
    let old = c.args.self.now in
    let within : c.loop-handle.handle < length old.files = search rules in
    sym (first-at (is_ready (terms_of old) (service_of past old)) old.files c.loop-handle.handle None within
    (ap (is_ready (terms_of old) (service_of past old)) (sym (file-at old.files c.loop-handle.handle)) ∙ sym (c.is_ready.ensures past mounted)
    ∙ c.if-is_ready.true) (c.loop-handle.invariant past mounted))

pub loop-handle-preserved : goal.loop-handle-preserved
loop-handle-preserved c = λ past mounted.
    let old = c.args.self.now in
    let within : c.loop-handle.handle < length old.files = search rules in
    one-more (is_ready (terms_of old) (service_of past old)) old.files c.loop-handle.handle None within
    (ap (is_ready (terms_of old) (service_of past old)) (sym (file-at old.files c.loop-handle.handle)) ∙ sym (c.is_ready.ensures past mounted)
    ∙ c.if-is_ready.false) (c.loop-handle.invariant past mounted)

pub returns : goal.returns
returns c = λ past mounted.
    let old = c.args.self.now in
    let end : length old.files ≤ c.loop-handle.handle = search rules in
    sym (none-in-all (is_ready (terms_of old) (service_of past old)) old.files c.loop-handle.handle end (c.loop-handle.invariant past mounted))
