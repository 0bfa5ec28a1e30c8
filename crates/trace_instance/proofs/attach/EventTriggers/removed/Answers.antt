use Rattle.std.proofs.Common.{◌≡◌, ◌∙◌, true, false, is_some, Err, ap, refl, rules, sym}
use Rattle.std.specs.List.{list_any}
use Rattle.trace_command.specs.declared.refusal.Refusal.TheVariants.{Memory}
use Rattle.trace_instance.specs.KeptHists.{says_same}
use Rattle.trace_instance.proofs.HistAnswering.{may_remove, remove-done, remove-lacks, remove-late}
use Rattle.trace_instance.proofs.NamedIn.{copied-some}
use Rattle.trace_instance.proofs.OneSays.{some-found}
use Rattle.trace_instance.proofs.attach.EventTriggers.removed.Goals as goal
use Rattle.trace_instance.proofs.attach.EventTriggers.removed.Goals.{else-written-via-then-written+else-is_none, else-written-via-else-written}

pub returns-then-is_none : goal.returns-then-is_none
returns-then-is_none c =
    let none : is_some c.matching.result ≡ false = search rules in
    let lacking : list_any (says_same c.args.spec) c.args.self.own.now.triggers.hists ≡ false =
    sym (some-found (says_same c.args.spec) c.args.self.own.now.triggers.hists) ∙ ap is_some (sym c.matching.ensures) ∙ copied-some c.matching.result ∙ none in
    remove-lacks c.args.spec c.args.self c.args.written (rw c.if-written.true lacking)

pub returns-in_err-new : goal.returns-in_err-new
returns-in_err-new c =
    let may : may_remove c.args.spec c.args.self c.args.written.append ≡ true = elim c.else-written.branch [
      | else-written-via-then-written+else-is_none w ↦
          let some : is_some w.matching.result ≡ true = search rules in
          rw w.if-written.true
          (sym (some-found (says_same c.args.spec) c.args.self.own.now.triggers.hists) ∙ ap is_some (sym w.matching.ensures) ∙ copied-some w.matching.result ∙ some)
      | else-written-via-else-written w ↦ rw w.if-written.false refl
    ] in
    let out : c.from_residual.result ≡ Err Memory = search rules in
    rw out (remove-late c.args.spec c.args.self c.args.written may)

pub returns : goal.returns
returns c =
    let may : may_remove c.args.spec c.args.self c.args.written.append ≡ true = elim c.else-written.branch [
      | else-written-via-then-written+else-is_none w ↦
          let some : is_some w.matching.result ≡ true = search rules in
          rw w.if-written.true
          (sym (some-found (says_same c.args.spec) c.args.self.own.now.triggers.hists) ∙ ap is_some (sym w.matching.ensures) ∙ copied-some w.matching.result ∙ some)
      | else-written-via-else-written w ↦ rw w.if-written.false refl
    ] in
    remove-done c.args.spec c.in_ok-new.field-0 c.args.self c.args.written (search rules) may
