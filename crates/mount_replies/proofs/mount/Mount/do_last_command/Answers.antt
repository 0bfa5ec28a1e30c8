use Rattle.std.proofs.Common.{◌≡◌, ◌∙◌, false, true, List, [], None, Some, refl, subst, sym}
use Rattle.mount_replies.specs.Lines.{is_blank_line}
use Rattle.mount_replies.specs.Steps.{LineAsked}
use Rattle.mount_replies.specs.private.LineRuns.{RunsFrom, target_command}
use Rattle.mount_replies.proofs.CommandLemmas.{last-blank, last-done, last-full, none-runs, one-stopped}
use Rattle.mount_replies.proofs.mount.Mount.do_last_command.Goals as goal

pub returns-then-is_blank-clause-runs : goal.returns-then-is_blank-clause-runs
returns-then-is_blank-clause-runs c =
    let blank : is_blank_line c.args.line.now ≡ true = sym c.is_blank.ensures ∙ c.if-is_blank.true in
    λ past mounted.
    subst (λ (lines : List LineAsked). RunsFrom past c.args.done c.args.self.now c.args.self.now lines (record { done = c.args.done; stop = None }))
    (sym (last-blank (target_command c.args.self.now.scene c.args.target) c.args.append c.args.size 0 c.args.line.now blank))
    (none-runs past c.args.done c.args.self.now mounted)

pub returns-in-Ok-clause-runs : goal.returns-in-Ok-clause-runs
returns-in-Ok-clause-runs c =
    let full : is_blank_line c.args.line.now ≡ false = sym c.is_blank.ensures ∙ c.if-is_blank.false in
    λ past mounted.
    subst (λ (lines : List LineAsked). RunsFrom past c.args.done c.args.self.now c.do_command.new.self lines (record { done = c.args.size; stop = None }))
    (sym (last-full (target_command c.args.self.now.scene c.args.target) c.args.append c.args.size 0 c.args.line.now full))
    (last-done past c.args.done c.args.self.now c.do_command.new.self
    (record { text = c.args.line.now; asking = target_command c.args.self.now.scene c.args.target c.args.append c.args.line.now; end = c.args.size })
    (c.in-Ok.ensures.did past mounted))

pub returns-in-Err-clause-runs : goal.returns-in-Err-clause-runs
returns-in-Err-clause-runs c =
    let full : is_blank_line c.args.line.now ≡ false = sym c.is_blank.ensures ∙ c.if-is_blank.false in
    λ past mounted.
    subst (λ (lines : List LineAsked). RunsFrom past c.args.done c.args.self.now c.do_command.new.self lines
    (record { done = c.args.done; stop = Some (record { line = c.args.line; fault = c.in-Err.fault }) }))
    (sym (last-full (target_command c.args.self.now.scene c.args.target) c.args.append c.args.size 0 c.args.line.now full))
    (one-stopped past c.args.done c.args.self.now c.do_command.new.self
    (record { text = c.args.line.now; asking = target_command c.args.self.now.scene c.args.target c.args.append c.args.line.now; end = c.args.size }) []
    (record { line = c.args.line; fault = c.in-Err.fault }) (c.in-Err.ensures.did past mounted) refl)
