use Rattle.std.proofs.Common.{sym, ◌∙◌, rules}
use Rattle.tracer_state.proofs.Making.{remove-lost, remove-done}
use Rattle.tracer_state.proofs.state.State.prepare_removal.Goals as goal

pub returns-in_default-clause-prepared : goal.returns-in_default-clause-prepared
returns-in_default-clause-prepared c = λ g past stands.
    remove-lost g c.args.self.now past c.args.name.now stands (sym c.index_of.ensures ∙ search rules)

pub returns-clause-prepared : goal.returns-clause-prepared
returns-clause-prepared c = λ g past stands.
    remove-done g c.args.self.now past c.args.name.now c.in-Some.index stands (sym c.in-Some.ensures)
