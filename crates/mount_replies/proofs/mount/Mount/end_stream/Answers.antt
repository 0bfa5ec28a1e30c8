use Rattle.std.proofs.Common.{sym, ◌∙◌}
use Rattle.mount_replies.specs.contracts.mount.Mount.{the_view}
use Rattle.mount_replies.proofs.StreamSteps.{rest-dropped, rest-kept, stream-kept, stream-stopped}
use Rattle.mount_replies.proofs.mount.Mount.end_stream.Goals as goal
use Rattle.mount_replies.proofs.mount.Mount.end_stream.Goals.{then-not-is_memory, else-not-is_memory}

pub returns-then-done-ne0-clause-ends : goal.returns-then-done-ne0-clause-ends
returns-then-done-ne0-clause-ends c =
    stream-kept c.args.self.now (the_view c.self.inside) c.keep_stream-then-done-ne0.new.self c.args.target c.args.event c.args.size c.args.after c.without_rest.result c.args.progress
    c.in-Some.stop c.in-Some.is c.if-done-ne0.true c.self.view_is c.without_rest.ensures c.keep_stream-then-done-ne0.ensures

pub returns-clause-ends : goal.returns-clause-ends
returns-clause-ends c =
    stream-stopped c.args.self.now c.note_injection-told.new.self c.if-not-is_memory.self c.args.target c.args.event c.args.size c.args.after c.args.progress c.in-Some.stop
    c.note_injection-told.result c.errno.result c.in-Some.is c.if-done-ne0.false c.note_injection-told.ensures c.errno.ensures
    (elim c.if-not-is_memory.branch [
      | then-not-is_memory w ↦ w.self-is ∙ rest-dropped c.note_injection-told.new.self (the_view c.self-2.inside) w.take_rest.new.self c.args.target.handle
          c.note_injection-told.result (sym c.is_memory.ensures ∙ w.if-not-is_memory.true) c.self-2.view_is w.take_rest.ensures.after
      | else-not-is_memory w ↦ w.self-is ∙ rest-kept c.note_injection-told.new.self c.args.target.handle c.note_injection-told.result
          (sym c.is_memory.ensures ∙ w.if-not-is_memory.false)
    ])
