use Rattle.std.proofs.Common.{◌≡◌, Bool, is_some, List, Ok, Err, rules, subst, sym}
use Rattle.trace_command.specs.FileNames.{address_at}
use Rattle.trace_command.specs.Requests.{Request}
use Rattle.tracer_specification.specs.History.{write_answer}
use Rattle.tracer_specification.specs.Snapshots.{has_spare}
use Rattle.trace_instance.specs.Files.{file_at}
use Rattle.trace_instance.specs.MemoryTaken.{TakesMemory, WriteTakesNoMemory}
use Rattle.trace_instance.proofs.TakingNone.{spare-says}
use Rattle.tracer_state.specs.States.{StandsFor}
use Rattle.tracer_state.specs.private.Files.{IsResolved}
use Rattle.tracer_state.specs.declared.resolve.Target.TheVariants.{Of}
use Rattle.tracer_state.specs.declared.state.Named.{Named}
use Rattle.tracer_state.proofs.Dispatch.{refused-found, stands-at, writes-found}
use Rattle.tracer_state.proofs.state.State.prepare_write.Goals as goal
use Rattle.tracer_state.proofs.state.State.prepare_write.Goals.{In-Of}

-- what the address leads to
led : (c : In-Of) (past : List Request) → StandsFor c.args.config.now c.args.self.now past
    → IsResolved c.args.config.now c.args.self.now past (address_at c.args.address) (Ok (Of c.in-Of.index c.in-Of.file))
led c past stands = rw c.in-Of.is at c.in_ok-resolve.ensures.resolved past stands

pub returns-in_err-change-in-Of-clause-prepared : goal.returns-in_err-change-in-Of-clause-prepared
returns-in_err-change-in-Of-clause-prepared c = λ past number stands.
    let g = c.args.config.now in
    let state = c.args.self.now in
    let name = (address_at c.args.address).instance in
    let refused = c.in_err-change-in-Of.field-0.0 in
    let resolved = led (goal.at.returns-in_err-change-in-Of-clause-prepared c).In-Of past stands in
    let out : c.from_residual-in_err-change-in-Of.result ≡ Err refused = search rules in
    rw out (refused-found g state past _ _ _ stands resolved (write_answer g name past c.args.written.append c.args.written.text.now) refused
    (c.in_err-change-in-Of.ensures.change g name past number stands.events c.requires.usable.distinct
    (stands-at g state past c.in-Of.index name c.index.result.now stands resolved.1 c.index.ensures) resolved.3))

pub returns-in_ok-change-in-Of-clause-prepared : goal.returns-in_ok-change-in-Of-clause-prepared
returns-in_ok-change-in-Of-clause-prepared c = λ past number stands.
    let g = c.args.config.now in
    let state = c.args.self.now in
    let name = (address_at c.args.address).instance in
    let resolved = led (goal.at.returns-in_ok-change-in-Of-clause-prepared c).In-Of past stands in
    writes-found g state past _ _ _ stands resolved c.args.written.append c.args.written.text.now c.in_ok-change-in-Of.change
    (c.in_ok-change-in-Of.ensures.change g name past number stands.events c.requires.usable.distinct
    (stands-at g state past c.in-Of.index name c.index.result.now stands resolved.1 c.index.ensures) resolved.3)

pub returns-in-Declarations-clause-memory : goal.returns-in-Declarations-clause-memory
returns-in-Declarations-clause-memory c = λ past stands late.
    absurd (rw (rw c.in-Declarations.is at c.in_ok-resolve.ensures.resolved past stands).1 at late)

pub returns-in_err-change-in-Of-clause-memory : goal.returns-in_err-change-in-Of-clause-memory
returns-in_err-change-in-Of-clause-memory c = λ past stands late.
    let resolved = led (goal.at.returns-in_err-change-in-Of-clause-memory c).In-Of past stands in
    let out : c.from_residual-in_err-change-in-Of.result ≡ Err c.in_err-change-in-Of.field-0.0 = search rules in
    rw out (c.in_err-change-in-Of.ensures.memory (rw resolved.2 at late))

pub returns-in-Declarations-clause-takes_none : goal.returns-in-Declarations-clause-takes_none
returns-in-Declarations-clause-takes_none c = λ past stands none.
    absurd (rw (rw c.in-Declarations.is at c.in_ok-resolve.ensures.resolved past stands).1 at none)

pub returns-in_ok-change-in-Of-clause-takes_none : goal.returns-in_ok-change-in-Of-clause-takes_none
returns-in_ok-change-in-Of-clause-takes_none c = λ past stands none takes.
    let g = c.args.config.now in
    let state = c.args.self.now in
    let name = (address_at c.args.address).instance in
    let one = c.index.result.now in
    let change = c.in_ok-change-in-Of.change in
    let resolved = led (goal.at.returns-in_ok-change-in-Of-clause-takes_none c).In-Of past stands in
    let own = stands-at g state past c.in-Of.index name one stands resolved.1 c.index.ensures in
    let file = file_at state.catalog c.in-Of.file in
    let text = c.args.written.text.now in
    let plain : WriteTakesNoMemory (has_spare name past) file text = rw resolved.2 at none in
    let here : WriteTakesNoMemory (is_some one.instance.sides.spare) file text =
    subst (λ (spare : Bool). WriteTakesNoMemory spare file text) (sym (spare-says g name past one.instance own)) plain in
    let taken : TakesMemory one.instance change = subst (λ (n : Named). TakesMemory n.instance change) (sym c.index.ensures) (takes one) in
    c.in_ok-change-in-Of.ensures.takes_none here taken
