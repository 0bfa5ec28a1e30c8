use Rattle.std.proofs.Common.{Some, Ok, Err}
use Rattle.trace_command.specs.Requests.{MakeInstance}
use Rattle.tracer.specs.Lives.{most_done}
use Rattle.tracer.proofs.Calls.{call-carried}
use Rattle.mount_replies.specs.contracts.mount.Mount.{the_view}
use Rattle.mount_replies.proofs.CallLemmas.{commanded-asked, made-commanded, memory-commanded, refused-commanded}
use Rattle.mount_replies.proofs.mount.Mount.ask_mkdir.Goals as goal

pub returns-in_default-clause-commanded : goal.returns-in_default-clause-commanded
returns-in_default-clause-commanded c = rw (← c.self.view_is) (λ past mounted.
    memory-commanded past (the_view c.self.inside) c.note_instance.new.scene (MakeInstance (Some c.args.name.now)) c.in_ok-prepared.prepared mounted
    (c.in_ok-prepared.ensures.prepared past mounted.lives) c.in_ok-prepared.ensures.room (λ none. none) c.in_default.ensures.err)

pub returns-in-Ok-carry_out-clause-commanded : goal.returns-in-Ok-carry_out-clause-commanded
returns-in-Ok-carry_out-clause-commanded c = rw (← c.self.view_is) (λ past mounted.
    let old = the_view c.self.inside in
    made-commanded past old c.carry_out.new.self c.note_instance.new.scene c.args.name.now c.in-Ok-carry_out.reply mounted c.carry_out.ensures.config
    (call-carried most_done past old.live c.carry_out.new.self (MakeInstance (Some c.args.name.now)) c.in_ok-prepared.prepared (Ok c.in-Ok-carry_out.reply)
    c.carry_out.ensures.config mounted.lives (c.in_ok-prepared.ensures.prepared past mounted.lives) c.in_ok-prepared.ensures.room
    c.in-Ok-carry_out.ensures.done c.in-Ok-carry_out.ensures.reply tt tt (λ none. absurd none) tt) c.in-Ok.ensures.ok)

pub returns-in-Ok-carry_out-clause-asked : goal.returns-in-Ok-carry_out-clause-asked
returns-in-Ok-carry_out-clause-asked c = rw (← c.self.view_is) (λ past mounted.
    let old = the_view c.self.inside in
    commanded-asked past old (record old { live = c.carry_out.new.self; scene = c.note_instance.new.scene }) (MakeInstance (Some c.args.name.now))
    (Ok c.in-Ok-carry_out.reply)
    (made-commanded past old c.carry_out.new.self c.note_instance.new.scene c.args.name.now c.in-Ok-carry_out.reply mounted c.carry_out.ensures.config
    (call-carried most_done past old.live c.carry_out.new.self (MakeInstance (Some c.args.name.now)) c.in_ok-prepared.prepared (Ok c.in-Ok-carry_out.reply)
    c.carry_out.ensures.config mounted.lives (c.in_ok-prepared.ensures.prepared past mounted.lives) c.in_ok-prepared.ensures.room
    c.in-Ok-carry_out.ensures.done c.in-Ok-carry_out.ensures.reply tt tt (λ none. absurd none) tt) c.in-Ok.ensures.ok))

pub returns-in-Err-clause-commanded : goal.returns-in-Err-clause-commanded
returns-in-Err-clause-commanded c = rw (← c.self.view_is) (λ past mounted.
    let old = the_view c.self.inside in
    refused-commanded past old c.carry_out.new.self c.take_back_instance.new.self (MakeInstance (Some c.args.name.now)) c.in-Err.refusal mounted
    c.carry_out.ensures.config
    (call-carried most_done past old.live c.carry_out.new.self (MakeInstance (Some c.args.name.now)) c.in_ok-prepared.prepared (Err c.in-Err.refusal)
    c.carry_out.ensures.config mounted.lives (c.in_ok-prepared.ensures.prepared past mounted.lives) c.in_ok-prepared.ensures.room
    tt tt c.in-Err.ensures.refused c.in-Err.ensures.memory (λ none. absurd none) c.in-Err.ensures.takes_memory)
    (c.take_back_instance.ensures old.scene c.args.name.now c.in-Ok.ensures.ok))
