use Rattle.std.proofs.Common.{◌≡◌, Err, refl, rules}
use Rattle.tracer_state.specs.AddressedRequests.{read_at}
use Rattle.tracer.proofs.Calls.{call-refused}
use Rattle.tracer.specs.LateReads.{replied}
use Rattle.mount_replies.specs.contracts.mount.Mount.{the_view}
use Rattle.mount_replies.proofs.CopyLemmas.{copy-carried, copy-commanded, named-at-top}
use Rattle.mount_replies.proofs.mount.Mount.take_copy.Goals as goal

pub prepare_copy_at-requires : goal.prepare_copy_at-requires
prepare_copy_at-requires c = named-at-top c.args.path.now c.address_of.result c.address_of.ensures

pub returns-in_err-prepared : goal.returns-in_err-prepared
returns-in_err-prepared c =
    let out : c.from_residual.result ≡ Err c.in_err-prepared.field-0.0 = search rules in
    let address = c.address_of.result in
    let live = c.self.inside.live in
    rw (out, ← c.self.view_is) (λ past mounted.
    copy-commanded c.args.limit past (the_view c.self.inside) live c.args.path.now c.args.most address (Err c.in_err-prepared.field-0.0) mounted refl
    c.address_of.ensures
    (call-refused c.args.limit past live (read_at address c.args.most) c.in_err-prepared.field-0.0 (c.in_err-prepared.ensures.prepared past mounted.lives)
    (λ late. absurd late) mounted.lives))

pub returns : goal.returns
returns c =
    let address = c.address_of.result in
    let old = c.self.inside.live in
    let new = c.carry_out_late.new.self in
    let prepared = c.in_ok-prepared.ensures in
    let carried = c.carry_out_late.ensures in
    rw (← c.self.view_is) (λ past mounted.
    copy-commanded c.args.limit past (the_view c.self.inside) new c.args.path.now c.args.most address (replied c.carry_out_late.result) mounted carried.config
    c.address_of.ensures
    (copy-carried c.args.limit past old new (read_at address c.args.most) c.in_ok-prepared.prepared c.carry_out_late.result carried.config mounted.lives
    (prepared.prepared past mounted.lives) prepared.room carried.done carried.late carried.refused carried.memory (λ none. absurd none) carried.takes_memory))
