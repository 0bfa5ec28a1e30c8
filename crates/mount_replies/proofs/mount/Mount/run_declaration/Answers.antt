use Rattle.std.proofs.Common.{◌≡◌, Some, None, refl, sym, ◌∙◌}
use Rattle.trace_command.specs.Requests.{request_of}
use Rattle.tracer_specification.specs.Settings.{declares}
use Rattle.tracer.specs.Lives.{most_done}
use Rattle.tracer.proofs.Calls.{call-carried}
use Rattle.mount_replies.specs.contracts.mount.Mount.{the_view}
use Rattle.mount_replies.proofs.CallLemmas.{declaration-declares, declaration-leaves, declaration-takes, left-commanded, memory-commanded}
use Rattle.mount_replies.proofs.mount.Mount.run_declaration.Goals as goal

pub returns-in-Ok-Some : goal.returns-in-Ok-Some
returns-in-Ok-Some c =
    let request = request_of c.args.command.now in
    let adds : declares request ≡ Some c.in-Ok-Some.event =
    declaration-declares c.args.text.now request c.requires ∙ sym (rw c.in-Ok-Some.field-0-is at c.in-Ok-Some.ensures) in
    let named : c.in-Ok-Some.event.name ≡ c.name.result.now = sym c.name.ensures in
    rw (← c.self.view_is) (λ past mounted.
    let runs = rw (← c.self.view_is) at c.carry_out_declaration.ensures past request in
    runs c.in-Ok-Some.event mounted (c.in_ok-prepared.ensures.prepared past mounted.lives) adds named)

pub returns-in-Ok-None : goal.returns-in-Ok-None
returns-in-Ok-None c =
    let request = request_of c.args.command.now in
    let leaves = declaration-leaves c.args.text.now request c.requires in
    let adds : declares request ≡ None =
    declaration-declares c.args.text.now request c.requires ∙ sym (rw c.in-Ok-None.field-0-is at c.in-Ok-None.ensures) in
    rw (← c.self.view_is) (λ past mounted.
    let old = the_view c.self.inside in
    left-commanded most_done past old c.carry_out.new.self request c.carry_out.result mounted c.carry_out.ensures.config
    (call-carried most_done past old.live c.carry_out.new.self request c.in_ok-prepared.prepared c.carry_out.result c.carry_out.ensures.config mounted.lives
    (c.in_ok-prepared.ensures.prepared past mounted.lives) c.in_ok-prepared.ensures.room c.carry_out.ensures.done c.carry_out.ensures.reply
    c.carry_out.ensures.refused c.carry_out.ensures.memory (λ none. absurd (declaration-takes past c.args.text.now request c.requires none))
    c.carry_out.ensures.takes_memory) leaves.0 leaves.1 adds)

pub returns-in-Err : goal.returns-in-Err
returns-in-Err c =
    let request = request_of c.args.command.now in
    rw (← c.self.view_is) (λ past mounted.
    let old = the_view c.self.inside in
    memory-commanded past old old.scene request c.in_ok-prepared.prepared mounted (c.in_ok-prepared.ensures.prepared past mounted.lives)
    c.in_ok-prepared.ensures.room (declaration-takes past c.args.text.now request c.requires) refl)
