use Rattle.std.proofs.Common.{◌≡◌, Bool, true, false, ℕ, List, ◌∷◌, ◌++◌, codes, map, [], drop, sym, ap, ◌∙◌, append_assoc, append-nil, refl, Vec, Global}
use Rattle.std.proofs.lemmas.List.{drop_all}
use Rattle.trace_format.proofs.LoopLemmas.{left}
use Rattle.trace_text.specs.CopiedHists.{shown_copy}
use Rattle.trace_text.specs.HistText.{one_hist}
use Rattle.trace_text.specs.TriggerText.{ShownHist}
use Rattle.trace_text.specs.declared.hist.CopiedHist.{CopiedHist}
use Rattle.trace_text.proofs.LoopLemmas.{one_more_after}
use Rattle.trace_text.proofs.hist.push_hists.Invariants.{left_to_write}
use Rattle.trace_text.proofs.hist.push_hists.Goals as goal
use Rattle.trace_text.proofs.hist.push_hists.Goals.{then-not-is_first+in_ok-push, else-not-is_first}

-- after the first histogram
after_first : (hist : ShownHist) (left rest : List ShownHist) (is_first : Bool) (old new all : List ℕ) → left ≡ hist ∷ rest → is_first ≡ true → new ≡ old ++ one_hist hist
    → old ++ left_to_write is_first left ≡ all → new ++ left_to_write false rest ≡ all
after_first hist left rest is_first old new all first is written so_far =
    let here : old ++ left_to_write is_first left ≡ old ++ (one_hist hist ++ left_to_write false rest) = (λ i. old ++ left_to_write (is i) (first i)) in
    ap (λ text. text ++ left_to_write false rest) written ∙ append_assoc old (one_hist hist) (left_to_write false rest) ∙ sym here ∙ so_far

-- after another one, before which stands an empty line
after_next : (hist : ShownHist) (left rest : List ShownHist) (is_first : Bool) (old next new all : List ℕ) → left ≡ hist ∷ rest → is_first ≡ false → next ≡ old ++ codes "\n"
    → new ≡ next ++ one_hist hist → old ++ left_to_write is_first left ≡ all → new ++ left_to_write false rest ≡ all
after_next hist left rest is_first old next new all first is began written so_far =
    one_more_after one_hist (codes "\n") hist left rest old next new all first began written (ap (λ b. old ++ left_to_write b left) (sym is) ∙ so_far)

nothing_left : (is_first : Bool) → left_to_write is_first [] ≡ []
nothing_left true = refl
nothing_left false = refl

pub returns : goal.returns
returns c =
    let old = c.loop-hist.out.items in
    let is_first = c.loop-hist.is_first in
    sym (append-nil old)
    ∙ ap (λ (rest : List ℕ). old ++ rest) (sym (nothing_left is_first))
    ∙ ap (λ (hists : List CopiedHist). old ++ left_to_write is_first (map shown_copy hists)) (sym (drop_all c.loop-hist.hist-index c.args.hists.now c.loop-hist-test.false))
    ∙ c.loop-hist.invariant

pub loop-hist-preserved : goal.loop-hist-preserved
loop-hist-preserved c =
    let old = c.loop-hist.out.items in
    let hist = shown_copy c.hist-item.result in
    let first = ap (map shown_copy) (left c.args.hists.now c.loop-hist.hist-index c.hist-item.result c.loop-hist-test.true c.hist-item.is) in
    elim c.if-not-is_first.branch [
      | then-not-is_first+in_ok-push w ↦ after_next hist _ _ c.loop-hist.is_first old _ _ _ first w.if-not-is_first.true w.in_ok-push.ensures.text
          (c.in_ok-push_hist.ensures ∙ ap (λ (out : Vec ℕ Global). out.items ++ one_hist hist) w.out-is) c.loop-hist.invariant
      | else-not-is_first w ↦ after_first hist _ _ c.loop-hist.is_first old _ _ first w.if-not-is_first.false
          (c.in_ok-push_hist.ensures ∙ ap (λ (out : Vec ℕ Global). out.items ++ one_hist hist) w.out-is) c.loop-hist.invariant
    ]
