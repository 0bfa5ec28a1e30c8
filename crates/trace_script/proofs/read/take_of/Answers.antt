use Rattle.std.proofs.Common.{Ok, ap, sym, ◌∙◌, rules}
use Rattle.trace_script.proofs.BareReads.{take_read}
use Rattle.trace_script.proofs.read.take_of.Goals as goal

pub returns : goal.returns
returns c =
    take_read c.args.words.now c.in-Some.count.now c.in-Some.path.now c.in_ok-limit.limit c.in-Some.ensures.word (c.is_word.ensures (search rules))
    (sym c.in_ok-limit.ensures) ∙ ap Ok (sym c.take.ensures)
