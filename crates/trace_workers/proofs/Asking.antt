-- A call of a worker.
use Rattle.std.proofs.Common.{◌≡◌, ◌≢◌, [], Result, IfOk, IfErr, refl, sym, subst, append-nil, arith}
use Rattle.ticket_lock.specs.declared.views.View.{View}
use Rattle.shared_book.specs.Asks.{GoesOn, IsDone, IsRefused, IsUndone}
use Rattle.trace_command.specs.Commands.{Command}
use Rattle.trace_command.specs.declared.command.Entry.{Entry}
use Rattle.trace_command.specs.declared.command.Reply.{Reply}
use Rattle.trace_command.specs.declared.refusal.Refusal.{Refusal}
use Rattle.trace_command.specs.declared.refusal.Refusal.TheVariants as Refusals
use Rattle.trace_workers.proofs.Working.{refused_unless_memory}

abbrev Answer : Type 0
Answer = Result Reply Refusal

-- a pass that was not used
pub stays : (v : View Entry) → GoesOn v v
stays v = record { low = refl; end = refl; base = refl; front = omega arith; ahead = λ known. known }

pub idle : (v : View Entry) → IsUndone v v
idle v = record { others = []; seen = sym (append-nil v.seen); by_others = refl }

-- what was asked is what was read
pub done_as : (v w : View Entry) (answer : Answer) (one other : Command) → one ≡ other → IfOk answer (IsDone v w one) → IfOk answer (IsDone v w other)
done_as v w answer one other same done = subst (λ (command : Command). IfOk answer (IsDone v w command)) same done

pub refused_as : (v w : View Entry) (answer : Answer) (one other : Command) → one ≡ other → IfErr answer (IsRefused v w one)
    → IfErr answer (λ refusal. refusal ≢ Refusals.Memory → IsRefused v w other refusal)
refused_as v w answer one other same refused =
    subst (λ (command : Command). IfErr answer (λ refusal. refusal ≢ Refusals.Memory → IsRefused v w command refusal)) same
    (refused_unless_memory v w one answer refused)
