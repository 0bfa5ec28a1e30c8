use Rattle.std.proofs.Common.{◌≡◌, Err, rules}
use Rattle.tracer_state.specs.AddressedRequests.{read_at}
use Rattle.tracer.specs.Lives.{most_done}
use Rattle.tracer.proofs.Calls.{call-carried, call-refused}
use Rattle.tracer.proofs.tracer.Tracer.read_at.Goals as goal

pub returns-in_err-prepared-clause-call : goal.returns-in_err-prepared-clause-call
returns-in_err-prepared-clause-call c = λ past lives.
    let out : c.from_residual.result ≡ Err c.in_err-prepared.field-0.0 = search rules in
    rw out (call-refused most_done past c.args.self.now (read_at c.args.address c.args.most) c.in_err-prepared.field-0.0 (c.in_err-prepared.ensures.prepared past lives)
    (λ late. absurd late) lives)

pub returns-clause-call : goal.returns-clause-call
returns-clause-call c = λ past lives.
    call-carried most_done past c.args.self.now c.carry_out.new.self (read_at c.args.address c.args.most) c.in_ok-prepared.prepared c.carry_out.result c.carry_out.ensures.config
    lives (c.in_ok-prepared.ensures.prepared past lives) c.in_ok-prepared.ensures.room c.carry_out.ensures.done c.carry_out.ensures.reply c.carry_out.ensures.refused
    c.carry_out.ensures.memory (λ none. absurd none) c.carry_out.ensures.takes_memory
