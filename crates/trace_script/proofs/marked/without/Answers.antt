use Rattle.trace_script.proofs.MarkLemmas.{bits_after}
use Rattle.trace_script.proofs.marked.without.Goals as goal

pub returns-clause-marked : goal.returns-clause-marked
returns-clause-marked c =
    rw c.split_at.ensures.back (record {
      after = c.requires.marked.after;
      low = bits_after _ c.args.line.now.text.now _ _ c.args.count c.requires.marked.low c.requires.within;
      equals = bits_after _ c.args.line.now.text.now _ _ c.args.count c.requires.marked.equals c.requires.within;
    })
