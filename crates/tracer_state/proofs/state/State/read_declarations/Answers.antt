use Rattle.std.proofs.Common.{◌≡◌, None, rules}
use Rattle.tracer_state.proofs.Dispatch.{declarations-shown}
use Rattle.tracer_state.proofs.state.State.read_declarations.Goals as goal

pub returns : goal.returns
returns c = λ g past name stands is.
    let none : c.args.limit ≡ None = search rules in
    declarations-shown g c.args.self.now past name c.args.limit c.in_ok-text.text stands is none (c.in_ok-text.ensures past stands.events)
