use Rattle.std.proofs.Common.{◌≡◌, List, ◌∷◌, ◌++◌, [], map, filter_map, drop, ◌+◌, sym, ap, ◌∙◌, append_assoc, append-nil}
use Rattle.std.proofs.lemmas.List.{drop_all, map-append}
use Rattle.trace_format.proofs.LoopLemmas.{left}
use Rattle.trace_text.specs.CopiedHists.{shown_copy}
use Rattle.trace_text.specs.HistText.{hist_of}
use Rattle.trace_text.specs.ShownTriggers.{shown_hist, shown_trigger}
use Rattle.trace_text.specs.TriggerText.{ShownHist}
use Rattle.trace_text.specs.declared.hist.CopiedHist.{CopiedHist}
use Rattle.trace_text.specs.declared.trigger.Shown.{Shown}
use Rattle.trace_text.proofs.hist.copy_hists.Goals as goal

-- one more
copied_more : (hists more : List CopiedHist) (one : CopiedHist) (hist : ShownHist) (left rest all : List ShownHist) → more ≡ hists ++ one ∷ []
    → shown_copy one ≡ hist → left ≡ hist ∷ rest → map shown_copy hists ++ left ≡ all → map shown_copy more ++ rest ≡ all
copied_more hists more one hist left rest all grown is first so_far =
    ap (λ (hs : List CopiedHist). map shown_copy hs ++ rest) grown
    ∙ ap (λ (hs : List ShownHist). hs ++ rest) (map-append shown_copy hists (one ∷ []))
    ∙ append_assoc (map shown_copy hists) (shown_copy one ∷ []) rest
    ∙ ap (λ (h : ShownHist). map shown_copy hists ++ h ∷ rest) is
    ∙ ap (λ (hs : List ShownHist). map shown_copy hists ++ hs) (sym first)
    ∙ so_far

pub loop-trigger-preserved-in_default : goal.loop-trigger-preserved-in_default
loop-trigger-preserved-in_default c =
    let shown = c.args.shown.now in
    let index = c.loop-trigger.trigger-index in
    let other = ap (λ (ts : List Shown). filter_map hist_of (map shown_trigger ts)) (left shown index c.trigger-item.result c.loop-trigger-test.true c.trigger-item.is)
    ∙ ap (λ (t : Shown). filter_map hist_of (map shown_trigger (t ∷ drop (index + 1) shown))) c.in_default.is in
    ap (λ (hs : List ShownHist). map shown_copy c.loop-trigger.hists.items ++ hs) (sym other) ∙ c.loop-trigger.invariant

pub loop-trigger-preserved : goal.loop-trigger-preserved
loop-trigger-preserved c =
    let shown = c.args.shown.now in
    let index = c.loop-trigger.trigger-index in
    let hist = shown_hist c.in-Hist.spec.now c.in-Hist.hist.now in
    let first = ap (λ (ts : List Shown). filter_map hist_of (map shown_trigger ts)) (left shown index c.trigger-item.result c.loop-trigger-test.true c.trigger-item.is)
    ∙ ap (λ (t : Shown). filter_map hist_of (map shown_trigger (t ∷ drop (index + 1) shown))) c.in-Hist.is in
    copied_more _ _ _ hist _ _ _ c.in_ok-push.ensures.items c.in_ok-copy_hist.ensures first c.loop-trigger.invariant

pub returns : goal.returns
returns c =
    let hists = map shown_copy c.loop-trigger.hists.items in
    sym (append-nil hists)
    ∙ ap (λ (triggers : List Shown). hists ++ filter_map hist_of (map shown_trigger triggers)) (sym (drop_all c.loop-trigger.trigger-index c.args.shown.now c.loop-trigger-test.false))
    ∙ c.loop-trigger.invariant
