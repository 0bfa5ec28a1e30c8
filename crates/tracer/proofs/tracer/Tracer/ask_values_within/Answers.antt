use Rattle.std.proofs.Common.{◌≡◌, ◌<◌, length, arith, rules, to_z, of_z, w32, Err}
use Rattle.std.proofs.lemmas.Int.{to_z-of_z}
use Rattle.trace_command.specs.Refusals.{IsRefusal}
use Rattle.trace_command.specs.declared.command.Reply.TheVariants.{Done}
use Rattle.tracer_specification.specs.Settings.{declared_events}
use Rattle.tracer_state.specs.States.{IsPreparedEmission}
use Rattle.tracer_state.specs.ValueEmissions.{values_emission}
use Rattle.tracer_state.proofs.NumberedEvents.{not-late}
use Rattle.tracer.specs.Lives.{limited_answer}
use Rattle.tracer.proofs.Calls.{call-done, call-refused}
use Rattle.tracer.proofs.tracer.Tracer.ask_values_within.Goals as goal

pub returns-clause-call : goal.returns-clause-call
returns-clause-call c = λ past before.
    let live = c.prepare_values.new.self in
    let request = values_emission (declared_events past) c.args.event c.args.cpu c.args.pid c.args.values.now in
    let lives = c.prepare_values.ensures.lives past before in
    let pid : to_z w32 (of_z w32 c.args.pid) ≡ c.args.pid = to_z-of_z w32 c.args.pid (search rules) in
    let prepared : IsPreparedEmission live.config past request live.state live.delivery = rw pid at c.in_ok-prepare_values.ensures.prepared past before in
    let room : length past < c.args.limit = omega (arith, lives.count, c.in_ok-prepare_values.ensures.room) in
    call-done c.args.limit live.config past c.deliver.new.self request Done c.deliver.ensures.config prepared.0 room
    (c.deliver.ensures.done past request lives prepared)

pub returns-in_err-prepare_values-clause-call : goal.returns-in_err-prepare_values-clause-call
returns-in_err-prepare_values-clause-call c = λ past before.
    let live = c.prepare_values.new.self in
    let events = declared_events past in
    let request = values_emission events c.args.event c.args.cpu c.args.pid c.args.values.now in
    let pid : to_z w32 (of_z w32 c.args.pid) ≡ c.args.pid = to_z-of_z w32 c.args.pid (search rules) in
    let refused : IsRefusal c.in_err-prepare_values.field-0.0 (limited_answer c.args.limit live.config past request) = rw pid at c.in_err-prepare_values.ensures.refused past before in
    let out : c.from_residual.result ≡ Err c.in_err-prepare_values.field-0.0 = search rules in
    rw out (call-refused c.args.limit past live request c.in_err-prepare_values.field-0.0 refused
    (λ takes is. not-late events c.args.event c.args.cpu c.args.pid c.args.values.now takes) (c.prepare_values.ensures.lives past before))
