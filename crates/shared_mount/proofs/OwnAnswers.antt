-- What commands that were done give a command is an answer of its own: a reply, or a refusal other than Memory, which says that memory was refused, and Worn,
-- which says that all tickets are drawn.
use Rattle.std.proofs.Common.{◌≡◌, ℕ, List, Result, Err, subst}
use Rattle.std.specs.Prelude.{length}
use Rattle.trace_command.specs.Refusals.{OrMemory}
use Rattle.trace_command.specs.Requests.{Request}
use Rattle.trace_command.specs.declared.command.Config.{Config}
use Rattle.trace_command.specs.declared.command.Reply.{Reply}
use Rattle.trace_command.specs.declared.refusal.Refusal.{Refusal}
use Rattle.trace_command.specs.declared.refusal.Refusal.TheVariants as refusals
use Rattle.tracer.specs.Lives.{limited_answer}
use Rattle.tracer_specification.specs.History.{answer_with_room}
use Rattle.tracer_specification.proofs.OwnAnswers.{IsOwn, unless_full_is, with_room}

limited_is_own : (limit : ℕ) (g : Config) (past : List Request) (request : Request) → IsOwn (limited_answer limit g past request)
unfolding limited_answer
limited_is_own limit g past request = unless_full_is limit (length past) (answer_with_room g past request) (with_room g past request)

limited_is_not_worn : (limit : ℕ) (g : Config) (past : List Request) (request : Request) → limited_answer limit g past request ≡ Err refusals.Worn → ⊥
limited_is_not_worn limit g past request e = subst IsOwn e (limited_is_own limit g past request)

-- ---- what may be answered

abbrev is_worn : Refusal → Type 0
is_worn refusals.Worn = Unit {0}
is_worn refusal = ⊥

worn_is_not_memory : refusals.Worn ≡ refusals.Memory → ⊥
worn_is_not_memory e = subst is_worn e tt

-- so it isn't answered either where memory may stand in place of the answer
pub unworn : (limit : ℕ) (g : Config) (past : List Request) (request : Request) (answer : Result Reply Refusal)
    → OrMemory answer (limited_answer limit g past request) → answer ≡ Err refusals.Worn → ⊥
unworn limit g past request answer may is =
    let Q : Result Reply Refusal → Type 0 = λ r. OrMemory r (limited_answer limit g past request) in
    limited_is_not_worn limit g past request (subst Q is may worn_is_not_memory)
