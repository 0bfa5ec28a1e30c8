use Rattle.trace_script.proofs.BareEmissions.{three_words}
use Rattle.trace_script.proofs.emission.words_after.Goals as goal

pub cut_word-requires-2 : goal.cut_word-requires-2
cut_word-requires-2 c = c.in-Some.ensures.bare

pub cut_word-requires-3 : goal.cut_word-requires-3
cut_word-requires-3 c = c.in-Some-cut_word.ensures.bare

pub returns-clause-tokens : goal.returns-clause-tokens
returns-clause-tokens c =
    three_words _ _ _ _ _ _ _ c.in-Some.ensures.word c.in-Some-cut_word.ensures.word c.in-Some-cut_word-2.ensures.word

pub returns-clause-bare : goal.returns-clause-bare
returns-clause-bare c = c.in-Some-cut_word-2.ensures.bare

pub returns-clause-spaced : goal.returns-clause-spaced
returns-clause-spaced c = λ e. c.in-Some-cut_word-2.ensures.spaced (c.in-Some-cut_word.ensures.spaced (c.in-Some.ensures.spaced e))
