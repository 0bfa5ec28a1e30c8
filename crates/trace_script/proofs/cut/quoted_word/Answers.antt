use Rattle.std.proofs.Common.{◌≡◌, true, false, not, List, ℕ, is_some, ap, sym, ◌∙◌}
use Rattle.trace_script.specs.Tokens.{InWord, tokens_from}
use Rattle.trace_script.proofs.WordLemmas.{quoted_ends, quoted_done, quoted_step, quoted_shorter, word_some}
use Rattle.trace_script.proofs.cut.quoted_word.Goals as goal
use Rattle.trace_script.proofs.cut.quoted_word.Goals.{else-is_none-via-then-is_none+else-is_end, else-is_none-via-else-is_none}

pub returns-then-is_end-clause-word : goal.returns-then-is_end-clause-word
returns-then-is_end-clause-word c =
    let loop = c.loop-index in
    rw c.split_at.ensures.back (quoted_ends loop.within loop.word.items c.args.line.now loop.index loop.invariant c.if-is_none.ensures c.loop-index-test.true
    (sym c.if-is_end.ensures))

pub returns-in-None-clause-word : goal.returns-in-None-clause-word
returns-in-None-clause-word c =
    let loop = c.loop-index in
    quoted_done loop.within loop.word.items c.args.line.now loop.index loop.invariant c.in-None.is c.loop-index-test.false

pub returns-then-is_end-clause-shorter : goal.returns-then-is_end-clause-shorter
returns-then-is_end-clause-shorter c =
    rw c.split_at.ensures.back (quoted_shorter c.args.line.now c.loop-index.index c.requires (sym c.if-is_end.ensures))

pub returns-in-None-clause-shorter : goal.returns-in-None-clause-shorter
returns-in-None-clause-shorter c = word_some c.args.line.now c.requires

pub loop-index-init : goal.loop-index-init
loop-index-init c = ap (λ (word : List ℕ). tokens_from InWord word c.args.line.now) c.clear.ensures.items

pub step-requires : goal.step-requires
step-requires c =
    elim c.else-is_none.branch [
      | else-is_none-via-then-is_none+else-is_end w ↦ λ none. sym w.is_end.ensures ∙ w.if-is_end.false
      | else-is_none-via-else-is_none w ↦ λ none. absurd (
          let e : false ≡ true = sym (ap is_some none) ∙ (c.is_none.ensures ∙ ap not w.if-is_none.false) in cc
          )
    ]

pub loop-index-preserved : goal.loop-index-preserved
loop-index-preserved c =
    let loop = c.loop-index in
    quoted_step loop.within c.step.new.within loop.word.items c.step.new.word.items c.args.line.now loop.index c.loop-index-test.true c.in_ok-step.ensures loop.invariant
