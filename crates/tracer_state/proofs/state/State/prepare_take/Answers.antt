use Rattle.std.proofs.Common.{◌≡◌, List, Some, Ok, Err, refl, rules}
use Rattle.trace_command.specs.FileNames.{address_at}
use Rattle.trace_command.specs.Requests.{Request}
use Rattle.tracer_specification.specs.History.{read_answer}
use Rattle.tracer_state.specs.States.{StandsFor}
use Rattle.tracer_state.specs.private.Files.{IsResolved}
use Rattle.tracer_state.specs.declared.resolve.Target.TheVariants.{Declarations, Of}
use Rattle.tracer_state.proofs.Dispatch.{is-source, reads-found, refused-found}
use Rattle.tracer_state.proofs.state.State.prepare_take.Goals as goal
use Rattle.tracer_state.proofs.state.State.prepare_take.Goals.{In-Of}

-- what the address leads to
led : (c : In-Of) (past : List Request) → StandsFor c.args.config.now c.args.self.now past
    → IsResolved c.args.config.now c.args.self.now past (address_at c.args.address) (Ok (Of c.in-Of.index c.in-Of.file))
led c past stands = rw c.in-Of.is at c.in_ok-resolve.ensures.resolved past stands

pub returns-in_err-change-in-Of : goal.returns-in_err-change-in-Of
returns-in_err-change-in-Of c = λ past stands.
    let g = c.args.config.now in
    let state = c.args.self.now in
    let name = (address_at c.args.address).instance in
    let refused = c.in_err-change-in-Of.field-0.0 in
    let resolved = led (goal.at.returns-in_err-change-in-Of c).In-Of past stands in
    let out : c.from_residual-in_err-change-in-Of.result ≡ Err refused = search rules in
    let source = is-source g state past _ c.in-Of.index name c.index.result.now stands resolved.1 refl refl c.index.ensures refl in
    rw out (refused-found g state past _ _ _ stands resolved (read_answer g name past (Some c.args.most)) refused
    (c.in_err-change-in-Of.ensures g name past source resolved.3))

pub returns-in-Declarations : goal.returns-in-Declarations
returns-in-Declarations c = λ past stands.
    let resolved : IsResolved c.args.config.now c.args.self.now past (address_at c.args.address) (Ok Declarations) =
    rw c.in-Declarations.is at c.in_ok-resolve.ensures.resolved past stands in
    rw (resolved.1, resolved.0) ((λ other. refl), (λ early. refl))

pub returns-in_ok-change-in-Of : goal.returns-in_ok-change-in-Of
returns-in_ok-change-in-Of c = λ past stands.
    let g = c.args.config.now in
    let state = c.args.self.now in
    let name = (address_at c.args.address).instance in
    let resolved = led (goal.at.returns-in_ok-change-in-Of c).In-Of past stands in
    let source = is-source g state past _ c.in-Of.index name c.index.result.now stands resolved.1 refl refl c.index.ensures refl in
    let taken = c.in_ok-change-in-Of.ensures g name past source resolved.3 in
    (taken.0, reads-found g state past _ _ _ stands resolved (Some c.args.most) (record { change = c.in_ok-change-in-Of.change; reply = taken.0 }) c.requires taken.1)
