use Rattle.std.proofs.Common.{inl, inr, sym, ◌∙◌}
use Rattle.trace_script.proofs.BareLines.{word_cut, rest_is_bare, spaced_word, word_alone, either_empty}
use Rattle.trace_script.proofs.emission.cut_word.Goals as goal
use Rattle.trace_script.proofs.emission.cut_word.Goals.{then-is_empty-via-then-is_empty, then-is_empty-via-else-is_empty+then-is_empty-2}

pub returns-then-is_empty-clause-alone : goal.returns-then-is_empty-clause-alone
returns-then-is_empty-clause-alone c =
    let cut = c.split_at.ensures in
    word_alone _ _ _ _ c.requires c.word_len.ensures.value cut.front cut.back (either_empty _ _ (
    elim c.then-is_empty.branch [
      | then-is_empty-via-then-is_empty w ↦ inl (sym c.is_empty.ensures ∙ w.if-is_empty.true)
      | then-is_empty-via-else-is_empty+then-is_empty-2 w ↦ inr (sym w.is_empty-else-is_empty.ensures ∙ w.if-is_empty-2.true)
    ]
    ))

pub returns-clause-word : goal.returns-clause-word
returns-clause-word c =
    let cut = c.split_at.ensures in
    rw c.split_at-2.ensures.back (word_cut _ _ _ _ c.requires c.word_len.ensures.value cut.front cut.back (sym c.if-is_empty.ensures) (sym c.if-is_empty-2.ensures))

pub returns-clause-bare : goal.returns-clause-bare
returns-clause-bare c = rw c.split_at-2.ensures.back (rest_is_bare _ _ _ c.requires c.split_at.ensures.back)

pub returns-clause-spaced : goal.returns-clause-spaced
returns-clause-spaced c =
    λ e. rw c.split_at-2.ensures.back (spaced_word _ _ _ c.requires c.word_len.ensures.value c.split_at.ensures.back (sym c.if-is_empty-2.ensures) e)
