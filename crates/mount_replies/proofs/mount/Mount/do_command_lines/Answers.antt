use Rattle.std.proofs.Common.{◌∙◌, ◌+◌, length, arith, refl, sym}
use Rattle.mount_replies.specs.Lines.{command_lines, pieces_of}
use Rattle.mount_replies.specs.private.LineRuns.{target_command}
use Rattle.mount_replies.proofs.CommandLemmas.{done-same, last-runs, next-blank, next-done, next-stopped, runs-same, stays-more, stopped-same}
use Rattle.mount_replies.proofs.mount.Mount.do_command_lines.Goals as goal

pub returns-in-Err-clause-runs : goal.returns-in-Err-clause-runs
returns-in-Err-clause-runs c = λ past mounted.
    next-stopped past c.args.self.now c.loop-at.self c.do_command.new.self
    (command_lines (target_command c.args.self.now.scene c.args.target) c.args.target.append (length c.args.bytes.now) 0 (pieces_of c.args.bytes.now))
    (target_command c.args.self.now.scene c.args.target) c.loop-at.append (length c.args.bytes.now) c.loop-at.from c.in-Some.at c.loop-at.done c.loop-at.rest.now
    _ (c.loop-at.invariant.way past mounted) (sym c.in-Some.ensures) (sym c.is_blank.ensures ∙ c.if-not-is_blank.true) refl
    (λ now led. stopped-same now c.loop-at.self c.do_command.new.self c.args.self.now.scene c.args.target c.loop-at.append _ c.in-Err.fault c.loop-at.invariant.stays
    (c.in-Err.ensures.did now led))

pub returns-in-Err-clause-stays : goal.returns-in-Err-clause-stays
returns-in-Err-clause-stays c =
    stays-more c.args.self.now.scene c.loop-at.self.scene c.do_command.new.self.scene c.args.target.owner c.args.target.file c.loop-at.invariant.stays
    c.do_command.ensures.stays

pub loop-at-preserved-then-not-is_blank : goal.loop-at-preserved-then-not-is_blank
loop-at-preserved-then-not-is_blank c = record {
  parts = omega (arith, c.after_newline-rest.ensures.long, c.loop-at.invariant.parts);
  few = omega arith;
  stays = stays-more c.args.self.now.scene c.loop-at.self.scene c.do_command.new.self.scene c.args.target.owner c.args.target.file
      c.loop-at.invariant.stays c.do_command.ensures.stays;
  way = λ past mounted.
      next-done past c.args.self.now c.loop-at.self c.do_command.new.self
      (command_lines (target_command c.args.self.now.scene c.args.target) c.args.target.append (length c.args.bytes.now) 0 (pieces_of c.args.bytes.now))
      (target_command c.args.self.now.scene c.args.target) c.loop-at.append (length c.args.bytes.now) c.loop-at.from (c.loop-at.from + (c.in-Some.at + 1))
      c.in-Some.at c.loop-at.done c.loop-at.rest.now c.after_newline-rest.result.now (c.loop-at.invariant.way past mounted) (sym c.in-Some.ensures) refl
      c.after_newline-rest.ensures.rest (sym c.is_blank.ensures ∙ c.if-not-is_blank.true)
      (λ now led. done-same now c.loop-at.self c.do_command.new.self c.args.self.now.scene c.args.target c.loop-at.append _ c.loop-at.invariant.stays
      (c.in_default-do_command.ensures.did now led));
}

pub loop-at-preserved : goal.loop-at-preserved
loop-at-preserved c = record {
  parts = omega (arith, c.after_newline-rest.ensures.long, c.loop-at.invariant.parts);
  few = omega (arith, c.loop-at.invariant.few);
  stays = c.loop-at.invariant.stays;
  way = λ past mounted.
      next-blank past c.args.self.now c.loop-at.self
      (command_lines (target_command c.args.self.now.scene c.args.target) c.args.target.append (length c.args.bytes.now) 0 (pieces_of c.args.bytes.now))
      (target_command c.args.self.now.scene c.args.target) c.loop-at.append (length c.args.bytes.now) c.loop-at.from (c.loop-at.from + (c.in-Some.at + 1))
      c.in-Some.at c.loop-at.done c.loop-at.rest.now c.after_newline-rest.result.now (c.loop-at.invariant.way past mounted) (sym c.in-Some.ensures) refl
      c.after_newline-rest.ensures.rest (sym c.is_blank.ensures ∙ c.if-not-is_blank.false);
}

pub returns-clause-runs : goal.returns-clause-runs
returns-clause-runs c = λ past mounted.
    last-runs past c.args.self.now c.loop-at.self c.do_last_command.new.self
    (command_lines (target_command c.args.self.now.scene c.args.target) c.args.target.append (length c.args.bytes.now) 0 (pieces_of c.args.bytes.now))
    (target_command c.args.self.now.scene c.args.target) c.loop-at.append (length c.args.bytes.now) c.loop-at.from c.loop-at.done c.loop-at.rest.now
    c.do_last_command.result (c.loop-at.invariant.way past mounted) (sym c.in_default.ensures)
    (λ now led. runs-same now c.loop-at.done c.loop-at.self c.do_last_command.new.self c.args.self.now.scene c.args.target c.loop-at.append
    (length c.args.bytes.now) c.loop-at.rest.now c.do_last_command.result c.loop-at.invariant.stays (c.do_last_command.ensures.runs now led))

pub returns-clause-stays : goal.returns-clause-stays
returns-clause-stays c =
    stays-more c.args.self.now.scene c.loop-at.self.scene c.do_last_command.new.self.scene c.args.target.owner c.args.target.file c.loop-at.invariant.stays
    c.do_last_command.ensures.stays
