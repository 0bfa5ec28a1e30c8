use Rattle.std.proofs.Common.{[]}
use Rattle.trace_script.proofs.WordLemmas.{plain_word}
use Rattle.trace_script.proofs.token.plain_part.Goals as goal

pub returns-clause-word : goal.returns-clause-word
returns-clause-word c =
    rw (c.split_at.ensures.front, c.split_at.ensures.back, c.plain_len.ensures.value) (plain_word [] c.args.line.now)
