use Rattle.std.proofs.Common.{arith}
use Rattle.trace_script.proofs.MarkLemmas.{first_word_len, word_within}
use Rattle.trace_script.proofs.marked.word_len.Goals as goal

pub returns-clause-value : goal.returns-clause-value
returns-clause-value c = first_word_len c.args.line.now.text.now _ c.args.line.now.low c.requires.low

pub returns-clause-bound : goal.returns-clause-bound
returns-clause-bound c =
    let text = c.args.line.now.text.now in
    omega (arith, first_word_len text _ c.args.line.now.low c.requires.low, word_within text)
