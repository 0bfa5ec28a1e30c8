use Rattle.trace_script.proofs.BarePairs.{pair_taken, pair_bare, pair_spaced}
use Rattle.trace_script.proofs.emission.cut_pair.Goals as goal

pub returns-clause-pair : goal.returns-clause-pair
returns-clause-pair c =
    rw c.new.ensures (pair_taken _ _ _ _ _ _ _ _ c.requires c.name_len.ensures.value c.split_at.ensures.front c.split_at.ensures.back c.in_ok-rest.ensures
    c.word_len.ensures.value c.split_at-2.ensures.front c.split_at-2.ensures.back)

pub returns-clause-bare : goal.returns-clause-bare
returns-clause-bare c =
    pair_bare _ _ _ _ _ _ _ _ c.requires c.name_len.ensures.value c.split_at.ensures.front c.split_at.ensures.back c.in_ok-rest.ensures
    c.word_len.ensures.value c.split_at-2.ensures.front c.split_at-2.ensures.back

pub returns-clause-spaced : goal.returns-clause-spaced
returns-clause-spaced c =
    pair_spaced _ _ _ _ _ _ _ _ c.requires c.name_len.ensures.value c.split_at.ensures.front c.split_at.ensures.back c.in_ok-rest.ensures
    c.word_len.ensures.value c.split_at-2.ensures.front c.split_at-2.ensures.back
