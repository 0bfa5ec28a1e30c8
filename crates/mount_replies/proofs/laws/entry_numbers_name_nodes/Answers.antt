use Rattle.mount_replies.proofs.EntryNumbers.{entry_numbers_differ, entry_numbers_name}
use Rattle.mount_replies.proofs.laws.entry_numbers_name_nodes.Goals as goal

pub returns-clause-named : goal.returns-clause-named
returns-clause-named c = entry_numbers_name

pub returns-clause-differ : goal.returns-clause-differ
returns-clause-differ c = entry_numbers_differ
