use Rattle.std.proofs.Common.{◌≡◌, false, inl, inr, sym, ◌∙◌}
use Rattle.std.specs.Str.{is_utf8}
use Rattle.std.proofs.lemmas.Bool.{cases_Bool, cond-true, cond-false}
use Rattle.std.proofs.lemmas.Str.{IsUtf8-from_is_utf8, is_utf8-from_IsUtf8}
use Rattle.trace_command.specs.Refusals.{shown_name}
use Rattle.trace_command.proofs.refusal.shown_name.Goals as goal

pub returns-in-Ok : goal.returns-in-Ok
unfolding shown_name
returns-in-Ok c =
    let name = c.args.name.now in
    c.in-Ok.ensures.cases.0 ∙ sym (cond-true (is_utf8 name) _ _ (is_utf8-from_IsUtf8 name c.in-Ok.ensures.cases.1))

pub returns-in-Err : goal.returns-in-Err
unfolding shown_name
returns-in-Err c =
    let name = c.args.name.now in
    let other : is_utf8 name ≡ false = elim (cases_Bool (is_utf8 name)) [ inl h ↦ absurd (c.in-Err.ensures.cases.0 (IsUtf8-from_is_utf8 name h)) | inr h ↦ h ] in
    sym (cond-false (is_utf8 name) _ _ other)
