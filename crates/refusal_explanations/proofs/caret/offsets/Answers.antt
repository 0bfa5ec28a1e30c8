use Rattle.std.proofs.Common.{ℕ, Bool, List, ◌++◌, ap, ◌∙◌}
use Rattle.refusal_explanations.specs.Carets.{one_if, offsets_from, offsets_of}
use Rattle.refusal_explanations.specs.declared.caret.Stand.TheVariants.{Between}
use Rattle.refusal_explanations.proofs.CaretLemmas.{offsets_end, offsets_more}
use Rattle.refusal_explanations.proofs.caret.offsets.Goals as goal

pub loop-at-init : goal.loop-at-init
unfolding offsets_of
loop-at-init c = ap (λ (offsets : List ℕ). offsets ++ offsets_from Between 0 0 c.args.line.now) c.new-offsets.ensures.items

pub loop-at-preserved : goal.loop-at-preserved
loop-at-preserved c =
    let loop = c.loop-at in
    rw (c.next_end-end.ensures, c.next_stand-stand.ensures)
    (offsets_more loop.offsets.items _ _ c.args.line.now loop.stand loop.end loop.at _ _ c.loop-at-test.true
    c.ends_at.ensures c.has_offset.ensures c.in_ok-push_if.ensures c.in_ok-push_if-2.ensures
    ∙ loop.invariant)

pub returns : goal.returns
returns c =
    let loop = c.loop-at in
    offsets_end loop.offsets.items _ c.args.line.now loop.stand loop.end loop.at c.loop-at-test.false
    (c.in_ok-push_if-3.ensures ∙ ap (λ (is_there : Bool). loop.offsets.items ++ one_if is_there loop.end) c.ends_at-2.ensures)
    ∙ loop.invariant
