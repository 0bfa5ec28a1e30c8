-- Refusals that are found before any memory is taken, asked for by the pass of a session.
use Rattle.std.proofs.Common.{◌≡◌, inl, inr, List, ◌++◌, Result, Ok, Err, IsErr, IfErr, append-nil, refl, ap, sym, subst, ◌∙◌}
use Rattle.ticket_lock.specs.Calls.{IsWorn}
use Rattle.ticket_lock.specs.declared.views.View.{View}
use Rattle.trace_command.specs.Refusals.{IsFoundEarly}
use Rattle.trace_command.specs.Commands.{Command}
use Rattle.trace_command.specs.declared.command.Config.{Config}
use Rattle.trace_command.specs.declared.command.Entry.{Entry}
use Rattle.trace_command.specs.declared.command.Reply.{Reply}
use Rattle.trace_command.specs.declared.refusal.Refusal.{Refusal}
use Rattle.trace_command.specs.declared.refusal.Refusal.TheVariants.{Memory, Worn}
use Rattle.tracer_specification.specs.History.{answer_to}
use Rattle.tracer_specification.proofs.Unworn.{memory_is_no_answer}
use Rattle.trace_session.specs.Passes.{IsSessionPass, IsRefusedEarly}
use Rattle.shared_book.specs.Asks.{IsRefused}

-- no refusal is given that says of itself that memory was refused
not_memory : (g : Config) (entries : List Entry) (command : Command) → IsErr (answer_to g entries command)
    → IfErr (answer_to g entries command) (λ told. told ≡ Memory) → ⊥
not_memory g entries command refused told = by (answer_to g entries command) refl refused told
  where
    by : (answer : Result Reply Refusal) → answer_to g entries command ≡ answer → IsErr answer → IfErr answer (λ t. t ≡ Memory) → ⊥
    by (Ok reply) at is same = cc
    by (Err refusal) at is same = memory_is_no_answer g entries command (at ∙ ap (λ (r : Refusal). Err r) same)

-- where memory was refused, the answer is none that is found early: nobody else has asked since
pub memory_is_late : (g : Config) (v w : View Entry) (command : Command) → IsSessionPass g v → IsRefused v w command Memory → IsRefusedEarly g v command → IsWorn v w
memory_is_late g v w command pass refused early = absurd (found early)
  where
    seen : w.seen ≡ v.seen
    seen = refused.seen ∙ (ap (λ (others : List Entry). v.seen ++ others) (refused.alone pass.names) ∙ append-nil v.seen)

    found : IsRefusedEarly g v command → ⊥
    found (inl by_name) =
        let is : IsFoundEarly (answer_to g w.seen command) = subst (λ (es : List Entry). IsFoundEarly (answer_to g es command)) (sym seen) by_name in
        let told : answer_to g w.seen command ≡ Err Memory = refused.early g pass.base (λ same. absurd (cc)) is in
        memory_is_no_answer g w.seen command told
    found (inr by_request) =
        let is : IsErr (answer_to g w.seen command) = subst (λ (es : List Entry). IsErr (answer_to g es command)) (sym seen) by_request.1 in
        not_memory g w.seen command is (refused.late_memory g pass.base (λ same. absurd (cc)) by_request.0)

-- where no ticket was left, all are drawn
pub all_drawn : (v w : View Entry) (command : Command) → IsRefused v w command Worn → IsWorn v w
all_drawn v w command refused = refused.worn refl
