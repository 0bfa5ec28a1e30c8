use Rattle.std.proofs.Common.{ap, drop, ◌∙◌, arith}
use Rattle.trace_script.specs.private.Marks.{is_equals}
use Rattle.trace_script.proofs.MarkLemmas.{first_bit, pair_marked}
use Rattle.trace_script.proofs.marked.marked_pair.Goals as goal

pub returns-clause-pair : goal.returns-clause-pair
returns-clause-pair c =
    rw c.new.ensures (pair_marked _ _ _ _ _ _ c.requires.bare c.word_len-end.ensures.value
    (first_bit is_equals c.args.line.now.text.now _ c.args.line.now.equals c.requires.marked.equals) (omega arith)
    c.split_at.ensures.front c.split_at-2.ensures.front (c.split_at-3.ensures.back ∙ ap (drop 1) c.split_at-2.ensures.back))
