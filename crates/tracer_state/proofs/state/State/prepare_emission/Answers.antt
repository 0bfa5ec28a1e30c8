use Rattle.std.proofs.Common.{◌≡◌, ◌<◌, Err, arith, rules, to_z, of_z, w32}
use Rattle.std.proofs.lemmas.Int.{to_z-of_z}
use Rattle.tracer_state.specs.private.Found.{numbered}
use Rattle.trace_command.specs.declared.refusal.Refusal.TheVariants.{Memory}
use Rattle.tracer_state.proofs.Alike.{alike-self}
use Rattle.tracer_state.proofs.Emitting.{has-event, named-found, prepared-emission}
use Rattle.tracer_state.proofs.NumberedEvents.{no-memory}
use Rattle.tracer_state.proofs.state.State.prepare_emission.Goals as goal

pub returns-then-cpu-config-clause-alike : goal.returns-then-cpu-config-clause-alike
returns-then-cpu-config-clause-alike c = alike-self c.args.self.now

pub returns-in_default-find_likely-clause-alike : goal.returns-in_default-find_likely-clause-alike
returns-in_default-find_likely-clause-alike c = alike-self c.args.self.now

pub returns-in_err-rebuild-clause-alike : goal.returns-in_err-rebuild-clause-alike
returns-in_err-rebuild-clause-alike c = alike-self c.args.self.now

pub prepare_row-requires-clause-each : goal.prepare_row-requires-clause-each
prepare_row-requires-clause-each c =
    rw c.deref_mut.ensures.value (has-event c.args.config.now c.args.self.now c.in-Some.found.index c.requires.usable c.in-Some.ensures.index.inside)

pub returns-in_err-prepare_row-clause-refused : goal.returns-in_err-prepare_row-clause-refused
returns-in_err-prepare_row-clause-refused c = λ past stands.
    let g = c.args.config.now in
    let asked = c.in-Emit in
    let found = c.in-Some.found in
    let inside : asked.cpu < g.cpus = omega arith in
    let out : c.from_residual-in_err-prepare_row.result ≡ Err Memory = search rules in
    let named = rw c.as_bytes.ensures at c.in-Some.ensures.named in
    rw (out, asked.is) (no-memory g past asked.event asked.cpu asked.pairs (numbered found) inside (named-found g c.args.self.now past asked.event found stands named))

pub returns-clause-prepared : goal.returns-clause-prepared
returns-clause-prepared c = λ past stands.
    let asked = c.in-Emit in
    let pid : to_z w32 (of_z w32 asked.pid) ≡ asked.pid = to_z-of_z w32 asked.pid (search rules) in
    rw asked.is (prepared-emission c.args.config.now c.args.self.now past asked.event asked.cpu asked.pid asked.pairs c.in-Some.found c.rebuild.new.self
    c.prepare_row.new.delivery c.prepare_row.new.instances (search rules) c.requires.usable stands
    (rw c.deref_mut.ensures.value at c.prepare_row.ensures.alike) (rw c.as_bytes.ensures at c.in-Some.ensures.named) (rw c.as_bytes.ensures at c.in-Some.ensures.index) (omega arith)
    (rw c.as_slice.ensures at c.in_ok-rebuild.ensures.exact) (rw pid at c.in_ok-prepare_row.ensures.given)
    (rw c.deref_mut.ensures.value at c.in_ok-prepare_row.ensures.reserved))
