-- Tries at requests of the mount.
use Rattle.std.proofs.Common.{◌≡◌, ℕ, List, Option, Some, Result, inr, refl, sym, subst}
use Rattle.trace_command.specs.declared.refusal.Refusal.{Refusal}
use Rattle.shared_mount.specs.declared.served.Served.{Served}
use Rattle.library_tracer.specs.ConsolesSeen.{ConsoleSeen}
use Rattle.library_tracer.specs.ShownReplies.{Answers}
use Rattle.tracectl_c.specs.Calls.{IsToldServed, TriesServing}

-- a thread that has joined made one
pub answer-tried : (asked bytes : List ℕ) (before after : Option ConsoleSeen) (was now : ConsoleSeen) (tried : Option (Result Served Refusal))
    (reply filled : List ℕ) (count owes status : ℕ) → Some was ≡ before → after ≡ Some now → Answers asked bytes was now tried
    → IsToldServed tried bytes reply filled count owes status → TriesServing (Answers asked) before after reply filled count owes status
answer-tried asked bytes before after was now tried reply filled count owes status is left answers told =
    subst (λ (b : Option ConsoleSeen). TriesServing (Answers asked) b after reply filled count owes status) is
    (subst (λ (a : Option ConsoleSeen). TriesServing (Answers asked) (Some was) a reply filled count owes status) (sym left)
    (inr (bytes, tried, answers, told)))
