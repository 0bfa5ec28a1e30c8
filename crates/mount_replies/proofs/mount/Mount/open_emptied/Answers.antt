use Rattle.std.proofs.Common.{◌∙◌, false, ap}
use Rattle.file_list.specs.declared.file.FileKind.{FileKind}
use Rattle.mount_replies.specs.Served.{open_flags}
use Rattle.mount_replies.specs.Services.{OpenSeen, just_opened, with_file}
use Rattle.mount_replies.specs.contracts.mount.Mount.{the_view}
use Rattle.mount_replies.proofs.WriteLemmas.{open-done, open-none, open-refused}
use Rattle.mount_replies.proofs.mount.Mount.open_emptied.Goals as goal

pub returns-in_default-clause-step : goal.returns-in_default-clause-step
returns-in_default-clause-step c =
    rw (← c.self.view_is) (λ past mounted.
    open-none past (the_view c.self.inside) c.args.owner c.args.file c.args.emptying.file c.args.emptying.text.now c.open.new.self mounted
    c.in_default.ensures.err)

pub returns-in-Ok-ask_noted-clause-step : goal.returns-in-Ok-ask_noted-clause-step
returns-in-Ok-ask_noted-clause-step c =
    rw (← c.self.view_is) (λ past mounted.
    open-done past (the_view c.self.inside) c.ask_noted.new.self c.args.owner c.args.file c.args.emptying.file c.args.emptying.text.now c.in-Ok.handle
    c.open_flags.result c.open.new.self c.in-Ok-ask_noted.field-0 c.in-Ok.ensures.handle
    (c.in-Ok.ensures.ok ∙ ap (λ (f : OpenSeen). with_file c.in-Ok.handle f c.self.inside.files) c.new-open_file.ensures)
    (c.open_flags.ensures ∙ ap (λ (k : FileKind). open_flags k) c.kind.ensures)
    (c.in-Ok-ask_noted.ensures past (record { lives = mounted.lives; scene = mounted.scene })))

pub returns-in-Err-clause-step : goal.returns-in-Err-clause-step
returns-in-Err-clause-step c =
    rw (← c.self.view_is) (λ past mounted.
    open-refused past (the_view c.self.inside) c.ask_noted.new.self (the_view c.self-2.inside) c.args.owner c.args.file c.args.emptying.file
    c.args.emptying.text.now c.in-Err.errno c.open.new.self c.take_back.new.self
    (c.in-Err.ensures past (record { lives = mounted.lives; scene = mounted.scene })) c.self-2.view_is
    (λ same. c.take_back.ensures c.self.inside.files (just_opened c.args.owner c.args.file false) c.count-count.ensures c.in-Ok.ensures.handle
    (same ∙ c.in-Ok.ensures.ok ∙ ap (λ (f : OpenSeen). with_file c.in-Ok.handle f c.self.inside.files) c.new-open_file.ensures)))
