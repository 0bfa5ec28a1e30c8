use Rattle.std.proofs.Common.{◌≡◌, Some, Err, rules}
use Rattle.tracer_state.specs.AddressedRequests.{read_at}
use Rattle.tracer.specs.Lives.{most_done}
use Rattle.tracer.proofs.Calls.{call-refused}
use Rattle.tracer.proofs.CarriedTakes.{call-taken}
use Rattle.tracer.proofs.tracer.Tracer.take_at.Goals as goal

pub returns-in_err-change-clause-call : goal.returns-in_err-change-clause-call
returns-in_err-change-clause-call c = λ past lives.
    let out : c.from_residual.result ≡ Err c.in_err-change.field-0.0 = search rules in
    rw out (call-refused most_done past c.args.self.now (read_at c.args.address (Some c.args.most)) c.in_err-change.field-0.0 (c.in_err-change.ensures.prepared past lives)
    (λ late. absurd late) lives)

pub returns-clause-call : goal.returns-clause-call
returns-clause-call c = λ past lives.
    let prepared = c.in_ok-change.ensures.prepared past lives in
    call-taken past c.args.self.now c.carry_out_take.new.self (read_at c.args.address (Some c.args.most)) c.in_ok-change.change prepared.0 c.carry_out_take.result
    c.carry_out_take.ensures.config lives prepared.1 c.in_ok-change.ensures.room c.carry_out_take.ensures.done
    c.carry_out_take.ensures.refused c.carry_out_take.ensures.memory (λ none. absurd none) c.carry_out_take.ensures.takes_memory
