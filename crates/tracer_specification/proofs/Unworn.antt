-- No history answers that all tickets are drawn, or that memory was refused.
use Rattle.std.proofs.Common.{◌≡◌, List, Err, subst}
use Rattle.trace_command.specs.Commands.{Command}
use Rattle.trace_command.specs.declared.command.Config.{Config}
use Rattle.trace_command.specs.declared.command.Entry.{Entry}
use Rattle.trace_command.specs.declared.refusal.Refusal.TheVariants.{Memory, Worn}
use Rattle.tracer_specification.specs.History.{answer_to}
use Rattle.tracer_specification.proofs.OwnAnswers.{IsOwn, answers-are_own}

pub worn_is_no_answer : (g : Config) (entries : List Entry) (command : Command) → answer_to g entries command ≡ Err Worn → ⊥
worn_is_no_answer g entries command e = subst IsOwn e (answers-are_own g entries command)

pub memory_is_no_answer : (g : Config) (entries : List Entry) (command : Command) → answer_to g entries command ≡ Err Memory → ⊥
memory_is_no_answer g entries command e = subst IsOwn e (answers-are_own g entries command)
