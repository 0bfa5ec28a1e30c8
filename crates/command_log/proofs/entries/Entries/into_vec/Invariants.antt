use Rattle.std.proofs.Common.{◌≡◌, ◌++◌}
use Rattle.command_log.proofs.entries.Entries.into_vec.Given as goal

-- the entries that were copied, and those that are left
abbrev pub invariant-loop-entry : goal.invariant-loop-entry
invariant-loop-entry l = l.entries.items ++ l.entry-iterator ≡ l.fn.self
