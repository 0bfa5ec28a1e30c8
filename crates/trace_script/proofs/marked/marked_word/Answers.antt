use Rattle.std.proofs.Common.{arith}
use Rattle.trace_script.proofs.MarkLemmas.{word_taken, bare_after}
use Rattle.trace_script.proofs.marked.marked_word.Goals as goal

pub returns-clause-word : goal.returns-clause-word
returns-clause-word c =
    rw c.without.ensures.text (word_taken _ _ _ c.requires.bare c.word_len-len.ensures.value c.split_at.ensures.front (omega arith) (omega (arith, c.word_len-len.ensures.bound)))

pub returns-clause-bare : goal.returns-clause-bare
returns-clause-bare c = rw c.without.ensures.text (bare_after _ _ c.requires.bare)
