use Rattle.std.proofs.Common.{Ok, ap, sym, ◌∙◌, rules}
use Rattle.trace_script.proofs.BareReads.{cat_read}
use Rattle.trace_script.proofs.read.cat_of.Goals as goal

pub returns : goal.returns
returns c = cat_read c.args.words.now (c.is_word.ensures (search rules)) ∙ ap Ok (sym c.read.ensures)
