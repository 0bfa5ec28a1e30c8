use Rattle.std.proofs.Common.{◌∙◌, List, subst, sym}
use Rattle.mount_replies.specs.Steps.{LineAsked}
use Rattle.mount_replies.specs.private.LineRuns.{RunsFrom, target_command}
use Rattle.mount_replies.proofs.CommandLemmas.{lines-one, lines-several}
use Rattle.mount_replies.proofs.mount.Mount.do_commands.Goals as goal

pub returns-then-is_several-clause-runs : goal.returns-then-is_several-clause-runs
returns-then-is_several-clause-runs c = λ past mounted.
    subst (λ (lines : List LineAsked). RunsFrom past 0 c.args.self.now c.do_command_lines.new.self lines c.do_command_lines.result)
    (sym (lines-several (target_command c.args.self.now.scene c.args.target) c.args.target.file c.args.target.append c.args.bytes.now
    c.without_newline-text.result.now c.without_newline-text.ensures (sym c.is_several.ensures ∙ c.if-is_several.true)))
    (c.do_command_lines.ensures.runs past mounted)

pub returns-else-is_several-clause-runs : goal.returns-else-is_several-clause-runs
returns-else-is_several-clause-runs c = λ past mounted.
    subst (λ (lines : List LineAsked). RunsFrom past 0 c.args.self.now c.do_one_command.new.self lines c.do_one_command.result)
    (sym (lines-one (target_command c.args.self.now.scene c.args.target) c.args.target.file c.args.target.append c.args.bytes.now
    c.without_newline-text.result.now c.without_newline-text.ensures (sym c.is_several.ensures ∙ c.if-is_several.false)))
    (c.do_one_command.ensures.runs past mounted)
