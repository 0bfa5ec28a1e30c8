use Rattle.std.proofs.Common.{sym, ap, ◌∙◌}
use Rattle.std.proofs.lemmas.List.{take-map}
use Rattle.hist_entries.specs.KeptEntries.{entry_in, entries_in}
use Rattle.hist_entries.proofs.entries.keep_first.Goals as goal

pub returns-then-kept-len : goal.returns-then-kept-len
returns-then-kept-len c = ap entries_in c.truncate.ensures.entries ∙ sym (take-map entry_in c.args.kept c.args.entries.now.entries)
