use Rattle.std.proofs.Common.{Err, false, refl, subst, sym, ◌∙◌}
use Rattle.fuse_wire.specs.declared.errno.Errno.TheVariants.{ENOMEM}
use Rattle.trace_command.specs.declared.refusal.Refusal.TheVariants.{Memory}
use Rattle.tracer_specification.specs.Settings.{now_of}
use Rattle.error_log.specs.Errors.{begun}
use Rattle.mount_tree.specs.NodePaths.{path_of}
use Rattle.mount_tree.specs.declared.node.Node.TheVariants as nodes
use Rattle.mount_replies.specs.Lines.{noted_answer}
use Rattle.mount_replies.specs.Mounted.{MountSeen}
use Rattle.mount_replies.specs.Steps.{write_of}
use Rattle.mount_replies.specs.private.Notings.{AsksNoted}
use Rattle.mount_replies.specs.contracts.mount.Mount.{the_view}
use Rattle.mount_replies.proofs.OpenLemmas.{noted-last}
use Rattle.mount_replies.proofs.WriteLemmas.{noted-done, noted-none}
use Rattle.mount_replies.proofs.mount.Mount.ask_noted.Goals as goal

pub returns-in_default : goal.returns-in_default
returns-in_default c = λ past mounted. (
  Memory,
  noted-none past c.args.self.now c.ask_write.new.self (write_of c.args.self.now.scene (nodes.File c.args.owner c.args.asked) false c.args.text.now) c.in-Err.refusal
      (begun c.args.owner (now_of past) (path_of c.args.self.now.scene (nodes.File c.args.owner c.args.file)))
      (path_of c.args.self.now.scene (nodes.File c.args.owner c.args.asked)) c.args.text.now c.args.shown.now c.args.at (c.in-Err.ensures.asked past mounted),
  refl,
)

pub returns-in_default-begin_note : goal.returns-in_default-begin_note
returns-in_default-begin_note c = λ past mounted.
    subst (λ (m : MountSeen). AsksNoted past c.args.self.now m
    (write_of c.args.self.now.scene (nodes.File c.args.owner c.args.asked) false c.args.text.now)
    (noted_answer (begun c.args.owner (now_of past) (path_of c.args.self.now.scene (nodes.File c.args.owner c.args.file)))
    (path_of c.args.self.now.scene (nodes.File c.args.owner c.args.asked)) c.args.text.now c.args.shown.now c.args.at) (Err ENOMEM))
    (sym c.in_default-begin_note.ensures.err) (
      Memory,
      noted-none past c.args.self.now c.ask_write.new.self (write_of c.args.self.now.scene (nodes.File c.args.owner c.args.asked) false c.args.text.now)
          c.in-Err.refusal (begun c.args.owner (now_of past) (path_of c.args.self.now.scene (nodes.File c.args.owner c.args.file)))
          (path_of c.args.self.now.scene (nodes.File c.args.owner c.args.asked)) c.args.text.now c.args.shown.now c.args.at (c.in-Err.ensures.asked past mounted),
      refl,
    )

pub returns-in-Ok : goal.returns-in-Ok
returns-in-Ok c = λ past mounted. (
  c.in-Ok.field-0,
  noted-done past c.args.self.now c.ask_write.new.self (write_of c.args.self.now.scene (nodes.File c.args.owner c.args.asked) false c.args.text.now) c.in-Ok.field-0
      (begun c.args.owner (now_of past) (path_of c.args.self.now.scene (nodes.File c.args.owner c.args.file)))
      (path_of c.args.self.now.scene (nodes.File c.args.owner c.args.asked)) c.args.text.now c.args.shown.now c.args.at (c.in-Ok.ensures.asked past mounted),
)

pub returns : goal.returns
returns c = λ past mounted.
    let asked = c.in-Err.ensures.asked past mounted in (
      c.in-Err.refusal,
      noted-last past c.args.self.now c.ask_write.new.self (the_view c.self.inside)
          (write_of c.args.self.now.scene (nodes.File c.args.owner c.args.asked) false c.args.text.now) c.in-Err.refusal c.args.owner
          (nodes.File c.args.owner c.args.file) (nodes.File c.args.owner c.args.asked) c.as_bytes.result.now c.args.text.now c.args.shown.now c.args.at
          c.note_answer.new.errors asked c.in-Err.ensures.refused (c.self.view_is ∙ c.in-Ok-begin_note.ensures.ok past asked.mounted)
          (c.as_bytes.ensures ∙ c.in-Ok-path_of.ensures) c.note_answer.ensures,
      c.errno_of_refused.ensures,
    )
