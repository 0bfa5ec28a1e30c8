use Rattle.std.proofs.Common.{Ok, Err}
use Rattle.tracer.specs.Lives.{most_done}
use Rattle.tracer.proofs.Calls.{call-carried}
use Rattle.mount_replies.specs.contracts.mount.Mount.{the_view}
use Rattle.mount_replies.proofs.CallLemmas.{declared-commanded, declaring-takes, memory-commanded, refused-commanded}
use Rattle.mount_replies.proofs.mount.Mount.carry_out_declaration.Goals as goal

pub returns-in_default : goal.returns-in_default
returns-in_default c = rw (← c.self.view_is) (λ past request event mounted ready adds named.
    memory-commanded past (the_view c.self.inside) c.note_event.new.scene request c.args.prepared mounted ready (rw (← c.self.view_is) at c.requires.room)
    (declaring-takes past request event adds) c.in_default.ensures.err)

pub returns-in-Ok-carry_out : goal.returns-in-Ok-carry_out
returns-in-Ok-carry_out c = rw (← c.self.view_is) (λ past request event mounted ready adds named.
    let old = the_view c.self.inside in
    declared-commanded past old c.carry_out.new.self c.note_event.new.scene request event c.args.name.now c.in-Ok-carry_out.reply mounted
    c.carry_out.ensures.config
    (call-carried most_done past old.live c.carry_out.new.self request c.args.prepared (Ok c.in-Ok-carry_out.reply) c.carry_out.ensures.config mounted.lives ready
    (rw (← c.self.view_is) at c.requires.room) c.in-Ok-carry_out.ensures.done c.in-Ok-carry_out.ensures.reply tt tt
    (λ none. absurd (declaring-takes past request event adds none)) tt) adds named c.in-Ok.ensures.ok)

pub returns-in-Err : goal.returns-in-Err
returns-in-Err c = rw (← c.self.view_is) (λ past request event mounted ready adds named.
    let old = the_view c.self.inside in
    refused-commanded past old c.carry_out.new.self c.take_back_event.new.self request c.in-Err.refusal mounted c.carry_out.ensures.config
    (call-carried most_done past old.live c.carry_out.new.self request c.args.prepared (Err c.in-Err.refusal) c.carry_out.ensures.config mounted.lives ready
    (rw (← c.self.view_is) at c.requires.room) tt tt c.in-Err.ensures.refused c.in-Err.ensures.memory
    (λ none. absurd (declaring-takes past request event adds none)) c.in-Err.ensures.takes_memory)
    (c.take_back_event.ensures old.scene c.in-Ok.ensures.ok))
