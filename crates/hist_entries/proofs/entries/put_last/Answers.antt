use Rattle.std.proofs.Common.{◌∙◌}
use Rattle.hist_entries.proofs.TableLemmas.{inserted}
use Rattle.hist_entries.proofs.entries.put_last.Goals as goal

pub returns : goal.returns
returns c = c.in-Ok.ensures.entries ∙ inserted c.args.entries.now.entries c.args.key c.args.tally c.requires.new
