use Rattle.std.proofs.Common.{sym, ◌∙◌, arith}
use Rattle.mount_tree.proofs.EntryLemmas.{cpu_at, cpu_past}
use Rattle.mount_tree.proofs.entry.cpu_folder_entry.Goals as goal

pub returns-then-index-from : goal.returns-then-index-from
returns-then-index-from c = sym (cpu_past c.args.owner c.args.cpus c.args.index (omega arith))

pub returns : goal.returns
returns c = c.folder_entry.ensures ∙ (rw c.cpu_name.ensures (sym (cpu_at c.args.owner c.args.cpus c.args.index (omega arith))))
