use Rattle.std.proofs.Common.{◌≡◌, ◌<◌, Err, arith, rules, sym, to_z, of_z, w32}
use Rattle.std.proofs.lemmas.Int.{to_z-of_z}
use Rattle.trace_format.specs.Catalogs.{event_of}
use Rattle.trace_format.specs.Values.{pairs_given}
use Rattle.tracer_specification.specs.Settings.{declared_events}
use Rattle.tracer_state.specs.private.Found.{numbered}
use Rattle.trace_command.specs.Refusals.{refusal_of_row}
use Rattle.trace_command.specs.declared.refusal.Refusal.TheVariants.{Memory}
use Rattle.tracer_state.proofs.Alike.{alike-self}
use Rattle.tracer_state.proofs.Emitting.{has-event, named-found, prepared-emission}
use Rattle.tracer_state.proofs.NumberedEvents.{no-cpu, no-event, no-memory, no-row, values-found}
use Rattle.tracer_state.proofs.state.State.prepare_values.Goals as goal

pub returns-then-cpu-config-clause-alike : goal.returns-then-cpu-config-clause-alike
returns-then-cpu-config-clause-alike c = alike-self c.args.self.now

pub returns-in_default-clause-alike : goal.returns-in_default-clause-alike
returns-in_default-clause-alike c = alike-self c.args.self.now

pub returns-in_err-rebuild_of_values-clause-alike : goal.returns-in_err-rebuild_of_values-clause-alike
returns-in_err-rebuild_of_values-clause-alike c = alike-self c.args.self.now

pub prepare_row-requires-clause-each : goal.prepare_row-requires-clause-each
prepare_row-requires-clause-each c =
    rw c.deref_mut.ensures.value (has-event c.args.config.now c.args.self.now c.in-Some.found.index c.requires.usable c.in-Some.ensures.index.inside)

pub returns-then-cpu-config-clause-refused : goal.returns-then-cpu-config-clause-refused
returns-then-cpu-config-clause-refused c = λ past stands.
    let is = no-cpu c.args.config.now past (event_of (declared_events past) c.args.emission.now.event) c.args.emission.now.cpu c.args.emission.now.pid c.args.emission.now.values.now (omega arith) in
    (λ other. is, λ early. is)

pub returns-in_default-clause-refused : goal.returns-in_default-clause-refused
returns-in_default-clause-refused c = λ past stands.
    let is = no-event c.args.config.now c.args.self.now past c.args.emission.now.event c.args.emission.now.cpu c.args.emission.now.pid c.args.emission.now.values.now stands
    c.in_default.ensures.event (omega arith) in
    (λ other. is, λ early. is)

pub returns-in_err-rebuild_of_values-clause-refused : goal.returns-in_err-rebuild_of_values-clause-refused
returns-in_err-rebuild_of_values-clause-refused c = λ past stands.
    let g = c.args.config.now in
    let old = c.args.self.now in
    let values = c.args.emission.now.values.now in
    let found = c.in-Some.found in
    let event = found.event.now in
    let there = named-found g old past event.name found stands (sym c.in-Some.ensures.named) in
    let inside : c.args.emission.now.cpu < g.cpus = omega arith in
    let fault = c.in_err-rebuild_of_values.field-0.0 in
    let out : c.from_residual.result ≡ Err (refusal_of_row fault) = search rules in
    rw (values-found g old past c.args.emission.now.event c.args.emission.now.cpu c.args.emission.now.pid values event stands c.in-Some.ensures.event, out)
    (no-row g past event.name c.args.emission.now.cpu (pairs_given event.fields values) (numbered found) fault inside there c.in_err-rebuild_of_values.ensures.exact)

pub returns-in_err-prepare_row-clause-refused : goal.returns-in_err-prepare_row-clause-refused
returns-in_err-prepare_row-clause-refused c = λ past stands.
    let g = c.args.config.now in
    let old = c.args.self.now in
    let values = c.args.emission.now.values.now in
    let found = c.in-Some.found in
    let event = found.event.now in
    let there = named-found g old past event.name found stands (sym c.in-Some.ensures.named) in
    let inside : c.args.emission.now.cpu < g.cpus = omega arith in
    let out : c.from_residual-in_err-prepare_row.result ≡ Err Memory = search rules in
    rw (values-found g old past c.args.emission.now.event c.args.emission.now.cpu c.args.emission.now.pid values event stands c.in-Some.ensures.event, out)
    (no-memory g past event.name c.args.emission.now.cpu (pairs_given event.fields values) (numbered found) inside there)

pub returns-clause-prepared : goal.returns-clause-prepared
returns-clause-prepared c = λ past stands.
    let found = c.in-Some.found in
    let event = found.event.now in
    let values = c.args.emission.now.values.now in
    let pid : to_z w32 (of_z w32 c.args.emission.now.pid) ≡ c.args.emission.now.pid = to_z-of_z w32 c.args.emission.now.pid (search rules) in
    rw (values-found c.args.config.now c.args.self.now past c.args.emission.now.event c.args.emission.now.cpu c.args.emission.now.pid values event stands c.in-Some.ensures.event)
    (prepared-emission c.args.config.now c.args.self.now past event.name c.args.emission.now.cpu c.args.emission.now.pid (pairs_given event.fields values) found
    c.rebuild_of_values.new.self c.prepare_row.new.delivery c.prepare_row.new.instances (search rules) c.requires.usable stands
    (rw c.deref_mut.ensures.value at c.prepare_row.ensures.alike) (sym c.in-Some.ensures.named) c.in-Some.ensures.index (omega arith)
    c.in_ok-rebuild_of_values.ensures.exact (rw pid at c.in_ok-prepare_row.ensures.given)
    (rw c.deref_mut.ensures.value at c.in_ok-prepare_row.ensures.reserved))
