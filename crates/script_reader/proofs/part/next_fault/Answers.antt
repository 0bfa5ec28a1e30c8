use Rattle.std.proofs.Common.{ℕ, ap, sym, ◌∙◌}
use Rattle.script_reader.specs.Items.{fault_after}
use Rattle.script_reader.proofs.PartReading.{length_commands}
use Rattle.script_reader.proofs.part.next_fault.Goals as goal

pub returns : goal.returns
returns c = c.fault_after.ensures ∙ ap (λ (n : ℕ). fault_after n c.args.line.now) (sym (length_commands c.args.threads.now))
