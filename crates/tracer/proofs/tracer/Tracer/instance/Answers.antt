use Rattle.std.proofs.Common.{◌≡◌, ℕ, Option, Some, None, is_some, sym, ap, ◌∙◌, rules}
use Rattle.std.specs.Option.{option_map}
use Rattle.trace_command.specs.FileNames.{bytes_now}
use Rattle.tracer_state.proofs.Making.{there-index, found-stands}
use Rattle.tracer.proofs.tracer.Tracer.instance.Goals as goal

pub returns-in_err-index-clause-there : goal.returns-in_err-index-clause-there
returns-in_err-index-clause-there c =
    let live = c.self.inside in
    let none : c.from_residual.result ≡ None = search rules in
    let lost : c.index_of.result ≡ None = search rules in
    rw (← c.self.view_is, none) (λ past lives.
    sym (there-index live.config live.state past (option_map bytes_now c.args.name) c.index_of.result lives.stands (sym c.index_of.ensures)
    ∙ ap (λ (found : Option ℕ). is_some found) lost))

pub returns-clause-there : goal.returns-clause-there
returns-clause-there c =
    let live = c.self.inside in
    let found : c.index_of.result ≡ Some c.in_ok-index.index = search rules in
    rw (← c.self.view_is) (λ past lives.
    sym (there-index live.config live.state past (option_map bytes_now c.args.name) c.index_of.result lives.stands (sym c.index_of.ensures)
    ∙ ap (λ (index : Option ℕ). is_some index) found))

pub returns-clause-stands : goal.returns-clause-stands
returns-clause-stands c =
    let live = c.self.inside in
    let found : c.index_of.result ≡ Some c.in_ok-index.index = search rules in
    rw (← c.self.view_is) (λ past lives.
    found-stands live.config live.state past (option_map bytes_now c.args.name) c.in_ok-index.index c.index.result.now lives.stands
    (sym c.index_of.ensures ∙ found) c.index.ensures)
