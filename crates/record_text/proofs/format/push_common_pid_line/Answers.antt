use Rattle.std.proofs.Common.{◌≡◌, ℕ, List, ◌++◌, ap, true, ◌∙◌, append_assoc}
use Rattle.std.specs.Prelude.{codes}
use Rattle.std.proofs.lemmas.Result.{on_ok_weaker}
use Rattle.record_text.specs.FormatText.{layout_text, layout_line, common_pid_line}
use Rattle.record_text.proofs.format.push_common_pid_line.Goals as goal

-- two pieces, one after the other
joined : (old a b first new : List ℕ) → first ≡ old ++ a → new ≡ first ++ b → new ≡ old ++ (a ++ b)
joined old a b first new one two = two ∙ ap (λ xs. xs ++ b) one ∙ append_assoc old a b

pub returns : goal.returns
unfolding common_pid_line layout_line
returns c =
    on_ok_weaker c.push_layout.result
    (λ written.
    joined c.args.out.now.items (codes "\tfield:s32 common_pid") (layout_text 8 4 true) _ _
    c.in_ok-push.ensures.text
    written)
    c.push_layout.ensures
