use Rattle.std.proofs.Common.{◌≡◌, Bool, ℕ, List, ◌++◌, codes, ap, ◌∙◌, append_assoc}
use Rattle.std.proofs.lemmas.Result.{on_ok_weaker}
use Rattle.trace_text.specs.HistText.{hist_head}
use Rattle.trace_text.specs.TriggerText.{hist_line}
use Rattle.trace_text.proofs.hist.push_hist_head.Goals as goal

-- three pieces, one after the other
joined : (old a b c first second new : List ℕ) → first ≡ old ++ a → second ≡ first ++ b → new ≡ second ++ c → new ≡ old ++ (a ++ b ++ c)
joined old a b c first second new one two three = three ∙ ap (λ xs. xs ++ c) (two ∙ ap (λ xs. xs ++ b) one) ∙ regrouped old a b c
  where
    regrouped : (old a b c : List ℕ) → old ++ a ++ b ++ c ≡ old ++ (a ++ b ++ c)
    regrouped old a b c = simp append_assoc

pub returns : goal.returns
unfolding hist_head
returns c =
    on_ok_weaker c.push-2.result
    (λ written.
    joined c.args.out.now.items (codes "# event histogram\n#\n# trigger info: ") (hist_line c.args.spec.now c.args.hist.now.paused) (codes "\n#\n\n") _ _ _ c.in_ok-push.ensures.text
    (c.in_ok-push_hist_line.ensures ∙ ap (λ (paused : Bool). c.push.new.out.items ++ hist_line c.args.spec.now paused) c.is_paused.ensures)
    written)
    c.push-2.ensures.text
