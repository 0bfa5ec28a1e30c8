use Rattle.std.proofs.Common.{sym, arith}
use Rattle.trace_script.proofs.TakingLemmas.{arrow_taken, word_taken, unquoted_drop, no_quote}
use Rattle.trace_script.proofs.WordLemmas.{arrow_len, arrow_or_word}
use Rattle.trace_script.proofs.tokens.first_token.Goals as goal

pub split_at-requires : goal.split_at-requires
split_at-requires c = omega (arith, arrow_len c.args.line.now (sym c.if-begins_with_arrow.ensures))

pub returns-then-begins_with_arrow-clause-token : goal.returns-then-begins_with_arrow-clause-token
returns-then-begins_with_arrow-clause-token c =
    arrow_taken _ _ _ _ c.requires.unquoted (sym c.if-begins_with_arrow.ensures) (rw c.split_at.ensures.back at c.redirection-append.ensures.token)
    c.without_blanks.ensures.tokens

pub returns-then-begins_with_arrow-clause-unquoted : goal.returns-then-begins_with_arrow-clause-unquoted
returns-then-begins_with_arrow-clause-unquoted c =
    c.without_blanks.ensures.unquoted (c.redirection-append.ensures.unquoted (rw c.split_at.ensures.back (unquoted_drop 1 c.args.line.now c.requires.unquoted)))

pub returns-then-begins_with_arrow-clause-begins : goal.returns-then-begins_with_arrow-clause-begins
returns-then-begins_with_arrow-clause-begins c = c.without_blanks.ensures.first

pub plain_part-requires : goal.plain_part-requires
plain_part-requires c = arrow_or_word c.args.line.now c.requires.begins (sym c.if-begins_with_arrow.ensures)

pub returns-clause-token : goal.returns-clause-token
returns-clause-token c =
    let word = c.plain_part.ensures in
    rw c.new.ensures (word_taken _ _ _ _ c.requires.unquoted (arrow_or_word c.args.line.now c.requires.begins (sym c.if-begins_with_arrow.ensures))
    (word.word (no_quote c.plain_part.result.1.now (word.unquoted c.requires.unquoted))) c.without_blanks-2.ensures.tokens)

pub returns-clause-unquoted : goal.returns-clause-unquoted
returns-clause-unquoted c = c.without_blanks-2.ensures.unquoted (c.plain_part.ensures.unquoted c.requires.unquoted)

pub returns-clause-begins : goal.returns-clause-begins
returns-clause-begins c = c.without_blanks-2.ensures.first
