use Rattle.std.proofs.Common.{◌≡◌, ◌<◌, length, arith, rules, Err}
use Rattle.trace_command.specs.Refusals.{IsRefusal}
use Rattle.trace_command.specs.Requests.{request_of}
use Rattle.trace_command.specs.declared.command.Reply.TheVariants.{Done}
use Rattle.tracer_state.specs.States.{IsPreparedEmission}
use Rattle.tracer.specs.Lives.{limited_answer}
use Rattle.tracer.proofs.Calls.{call-done, call-refused}
use Rattle.tracer.proofs.tracer.Tracer.ask_emission.Goals as goal

pub returns-clause-call : goal.returns-clause-call
returns-clause-call c = λ past before.
    let live = c.prepare_emission.new.self in
    let request = request_of c.args.command.now in
    let lives = c.prepare_emission.ensures.lives past before in
    let prepared : IsPreparedEmission live.config past request live.state live.delivery = c.in_ok-prepare_emission.ensures.prepared past before in
    let room : length past < c.args.limit = omega (arith, lives.count, c.in_ok-prepare_emission.ensures.room) in
    call-done c.args.limit live.config past c.deliver.new.self request Done c.deliver.ensures.config prepared.0 room
    (c.deliver.ensures.done past request lives prepared)

pub returns-in_err-prepare_emission-clause-call : goal.returns-in_err-prepare_emission-clause-call
returns-in_err-prepare_emission-clause-call c = λ past before.
    let live = c.prepare_emission.new.self in
    let request = request_of c.args.command.now in
    let refused : IsRefusal c.in_err-prepare_emission.field-0.0 (limited_answer c.args.limit live.config past request) = c.in_err-prepare_emission.ensures.refused past before in
    let out : c.from_residual.result ≡ Err c.in_err-prepare_emission.field-0.0 = search rules in
    rw out (call-refused c.args.limit past live request c.in_err-prepare_emission.field-0.0 refused (λ takes. absurd (c.prepare_emission.ensures.memory takes))
    (c.prepare_emission.ensures.lives past before))
