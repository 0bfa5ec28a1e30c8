use Rattle.std.proofs.Common.{rules}
use Rattle.std.specs.Cmp.Lexicographic.{bytes_decides}
use Rattle.trace_command.specs.declared.command.CommandOf.TheVariants.{Emit, Mkdir, Rmdir, Write, Read}
use Rattle.trace_command.proofs.EqualLemmas.{pairs_decided}
use Rattle.trace_command.proofs.RefusalLemmas.{refusal_decided}
use Rattle.trace_command.proofs.laws.equal_values_are_the_same.Goals as goal

pub returns-clause-command : goal.returns-clause-command
returns-clause-command s (Emit e c p ps) (Emit f d q qs) = search (rules, bytes_decides, pairs_decided)
returns-clause-command s (Mkdir p) (Mkdir q) = search rules
returns-clause-command s (Rmdir p) (Rmdir q) = search rules
returns-clause-command s (Write p a t) (Write q b u) = search rules
returns-clause-command s (Read p l) (Read q m) = search rules
returns-clause-command s _ _ = search rules

pub returns-clause-entry : goal.returns-clause-entry
returns-clause-entry s a b = let commands = returns-clause-command s a.command b.command in search rules

pub returns-clause-refusal : goal.returns-clause-refusal
returns-clause-refusal c = refusal_decided
