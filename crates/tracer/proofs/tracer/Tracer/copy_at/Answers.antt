use Rattle.std.proofs.Common.{◌≡◌, Err, rules}
use Rattle.tracer_state.specs.AddressedRequests.{read_at}
use Rattle.tracer.specs.Lives.{most_done}
use Rattle.tracer.proofs.Calls.{call-refused}
use Rattle.tracer.proofs.LateCalls.{call-late}
use Rattle.tracer.proofs.tracer.Tracer.copy_at.Goals as goal

pub returns-in_err-prepared-clause-call : goal.returns-in_err-prepared-clause-call
returns-in_err-prepared-clause-call c = λ past lives.
    let out : c.from_residual.result ≡ Err c.in_err-prepared.field-0.0 = search rules in
    rw out (call-refused most_done past c.args.self.now (read_at c.args.address c.args.most) c.in_err-prepared.field-0.0 (c.in_err-prepared.ensures.prepared past lives)
    (λ late. absurd late) lives)

pub returns-clause-call : goal.returns-clause-call
returns-clause-call c = λ past lives.
    call-late most_done past c.args.self.now c.carry_out_late.new.self (read_at c.args.address c.args.most) c.in_ok-prepared.prepared c.carry_out_late.result
    c.carry_out_late.ensures.config lives (c.in_ok-prepared.ensures.prepared past lives) c.in_ok-prepared.ensures.room c.carry_out_late.ensures.done
    c.carry_out_late.ensures.late c.carry_out_late.ensures.refused c.carry_out_late.ensures.memory (λ none. absurd none) c.carry_out_late.ensures.takes_memory
