use Rattle.std.proofs.Common.{◌≡◌, ◌∙◌, Ok, Err, length, sym, subst, rules}
use Rattle.trace_command.specs.Paths as paths
use Rattle.trace_command.specs.Paths.{Address}
use Rattle.trace_instance.specs.Instances.{IsUsableInstance}
use Rattle.tracer_state.specs.private.Files.{IsResolved, IsTarget}
use Rattle.tracer_state.specs.declared.state.Named.{Named}
use Rattle.tracer_state.specs.declared.resolve.Target.TheVariants.{Declarations, Of}
use Rattle.tracer_state.proofs.Dispatch.{stands-at}
use Rattle.tracer_state.proofs.PipeLooks.{has_cpu, told-declarations, told-found, told-lost}
use Rattle.tracer_state.proofs.state.State.waiting.Goals as goal

pub returns-in_err-resolve : goal.returns-in_err-resolve
returns-in_err-resolve c = λ past stands.
    let g = c.args.config.now in
    let state = c.args.self.now in
    let address : Address = paths.address_of c.args.path.now in
    let refused = c.in_err-resolve.field-0.0 in
    let lost : IsResolved g state past address (Err refused) =
    subst (λ (a : Address). IsResolved g state past a (Err refused)) c.address_of.ensures (c.in_err-resolve.ensures.resolved past stands) in
    let out : c.from_residual.result ≡ Err refused = search rules in
    out ∙ sym (told-lost g state past address refused lost)

pub returns-in-Declarations : goal.returns-in-Declarations
returns-in-Declarations c = λ past stands.
    let g = c.args.config.now in
    let state = c.args.self.now in
    let address : Address = paths.address_of c.args.path.now in
    let led : IsResolved g state past address (Ok c.in_ok-resolve.field-0) =
    subst (λ (a : Address). IsResolved g state past a (Ok c.in_ok-resolve.field-0)) c.address_of.ensures (c.in_ok-resolve.ensures.resolved past stands) in
    let resolved : IsResolved g state past address (Ok Declarations) = rw c.in-Declarations.is at led in
    sym (told-declarations g state past address resolved)

pub returns-in-Of : goal.returns-in-Of
returns-in-Of c = λ past stands.
    let g = c.args.config.now in
    let state = c.args.self.now in
    let address : Address = paths.address_of c.args.path.now in
    let index = c.in-Of.index in
    let led : IsResolved g state past address (Ok c.in_ok-resolve.field-0) =
    subst (λ (a : Address). IsResolved g state past a (Ok c.in_ok-resolve.field-0)) c.address_of.ensures (c.in_ok-resolve.ensures.resolved past stands) in
    let resolved : IsResolved g state past address (Ok (Of index c.in-Of.file)) = rw c.in-Of.is at led in
    told-found g state past address index c.in-Of.file c.has_waiting.result stands resolved
    (c.has_waiting.ensures g address.instance past state.catalog (stands-at g state past index address.instance c.index.result.now stands resolved.1 c.index.ensures))

pub has_waiting-requires : goal.has_waiting-requires
has_waiting-requires c =
    let g = c.args.config.now in
    let state = c.args.self.now in
    let index = c.in-Of.index in
    let n = c.index.result.now in
    let there : IsTarget g.cpus state (Of index c.in-Of.file) = rw c.in-Of.is at c.in_ok-resolve.ensures.there in
    let own : IsUsableInstance g (length state.catalog) n.instance =
    subst (λ (m : Named). IsUsableInstance g (length state.catalog) m.instance) (sym c.index.ensures) (c.requires.usable.each index n there.0) in
    record { cpu = has_cpu g.cpus _ state.catalog c.in-Of.file own.shaped.live.cpus there.1 }
