use Rattle.std.proofs.Common.{◌≡◌, List, Some, None, Ok, Err, true, refl, sym, ap, ◌∙◌, rules}
use Rattle.trace_command.specs.Paths.{Address}
use Rattle.trace_command.specs.FileNames.{address_at, file_at}
use Rattle.trace_command.specs.Requests.{Request}
use Rattle.tracer_specification.specs.Settings.{is_there}
use Rattle.tracer_state.specs.States.{StandsFor}
use Rattle.tracer_state.specs.private.Files.{IsAt, IsFound}
use Rattle.tracer_state.proofs.Resolving.{found-there, lost-there, no-instance, no-file, missing-file}
use Rattle.tracer_state.proofs.state.State.resolve.Goals as goal
use Rattle.tracer_state.proofs.state.State.resolve.Goals.{In-Some, In-Some-file}

-- the instance is there
there : (c : In-Some) (past : List Request) → StandsFor c.args.config.now c.args.self.now past
    → (is_there (address_at c.args.address).instance past ≡ true)
    × IsAt c.args.self.now c.in-Some.index (address_at c.args.address).instance
there c past stands =
    found-there c.args.config.now c.args.self.now past (address_at c.args.address).instance c.in-Some.index stands (sym c.in-Some.ensures)

-- and the address has a file
named : (c : In-Some-file) → (address_at c.args.address).file ≡ Some (file_at c.in-Some-file.named)
named c = search rules

pub returns-in_default-clause-resolved : goal.returns-in_default-clause-resolved
returns-in_default-clause-resolved c = λ past stands answered.
    let none : c.index_of.result ≡ None = search rules in
    no-instance c.args.config.now past (address_at c.args.address) answered
    (lost-there c.args.config.now c.args.self.now past (address_at c.args.address).instance stands (sym c.index_of.ensures ∙ none))

pub returns-in_default-file-clause-resolved : goal.returns-in_default-file-clause-resolved
returns-in_default-file-clause-resolved c = λ past stands answered.
    let address : Address = address_at c.args.address in
    let none : address.file ≡ None = search rules in
    no-file c.args.config.now past address answered (there (goal.at.returns-in_default-file-clause-resolved c).In-Some past stands).0 none

pub returns-in_err-file-clause-resolved : goal.returns-in_err-file-clause-resolved
returns-in_err-file-clause-resolved c = λ past stands.
    let at = goal.at.returns-in_err-file-clause-resolved c in
    let missed = c.in_err-file.ensures.found c.args.config.now past refl stands.events in
    let out : c.from_residual.result ≡ Err c.in_err-file.field-0.0 = search rules in
    rw out (λ answered. missing-file c.args.config.now past (address_at c.args.address) answered (file_at c.in-Some-file.named)
    c.in_err-file.field-0.0 (there at.In-Some past stands).0 (named at.In-Some-file) missed)

pub returns-in-Some-2-clause-resolved : goal.returns-in-Some-2-clause-resolved
returns-in-Some-2-clause-resolved c = λ past stands.
    let at = goal.at.returns-in-Some-2-clause-resolved c in
    let led = there at.In-Some past stands in
    let some : c.in_ok-file.field-0 ≡ Some c.in-Some-2.file = search rules in
    let is : IsFound c.args.config.now past c.args.self.now.catalog (file_at c.in-Some-file.named) (Ok (Some c.in-Some-2.file)) =
    rw some at (c.in_ok-file.ensures.found c.args.config.now past refl stands.events) in
    (led.0, led.1, named at.In-Some-file ∙ ap Some is.0, is.1)

pub returns-in-None-clause-resolved : goal.returns-in-None-clause-resolved
returns-in-None-clause-resolved c = λ past stands.
    let at = goal.at.returns-in-None-clause-resolved c in
    let none : c.in_ok-file.field-0 ≡ None = search rules in
    let is : IsFound c.args.config.now past c.args.self.now.catalog (file_at c.in-Some-file.named) (Ok None) =
    rw none at (c.in_ok-file.ensures.found c.args.config.now past refl stands.events) in
    ((there at.In-Some past stands).0, named at.In-Some-file ∙ ap Some is)
