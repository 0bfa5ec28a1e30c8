use Rattle.std.proofs.Common.{◌≡◌, Err, rules}
use Rattle.tracer_state.specs.AddressedRequests.{write_at}
use Rattle.tracer.specs.Lives.{most_done}
use Rattle.tracer.proofs.Calls.{call-carried, call-refused}
use Rattle.tracer.proofs.tracer.Tracer.write_at.Goals as goal

pub returns-in_err-prepared-clause-call : goal.returns-in_err-prepared-clause-call
returns-in_err-prepared-clause-call c = λ past lives.
    let out : c.from_residual.result ≡ Err c.in_err-prepared.field-0.0 = search rules in
    rw out (call-refused most_done past c.args.self.now (write_at c.args.address c.args.append c.args.text.now) c.in_err-prepared.field-0.0 (c.in_err-prepared.ensures.prepared past lives)
    (c.in_err-prepared.ensures.memory past lives) lives)

pub returns-clause-call : goal.returns-clause-call
returns-clause-call c = λ past lives.
    call-carried most_done past c.args.self.now c.carry_out.new.self (write_at c.args.address c.args.append c.args.text.now) c.in_ok-prepared.prepared c.carry_out.result c.carry_out.ensures.config
    lives (c.in_ok-prepared.ensures.prepared past lives) c.in_ok-prepared.ensures.room c.carry_out.ensures.done c.carry_out.ensures.reply c.carry_out.ensures.refused
    c.carry_out.ensures.memory (c.in_ok-prepared.ensures.takes_none past lives) c.carry_out.ensures.takes_memory
