use Rattle.std.proofs.Common.{[], refl, rules}
use Rattle.trace_command.specs.Configs.{IsInRange}
use Rattle.tracer.proofs.Living.{live-new}
use Rattle.tracer.proofs.tracer.Tracer.new.Goals as goal

pub invariant_of-result : goal.invariant_of-result
invariant_of-result c =
    let range : IsInRange c.args.config = c.is_in_range.ensures.yes (search rules) in
    record { past = []; lives = live-new c.args.config _ range refl c.in_ok-state.ensures }

pub returns-clause-made : goal.returns-clause-made
returns-clause-made c =
    let range : IsInRange c.args.config = c.is_in_range.ensures.yes (search rules) in
    (refl, live-new c.args.config _ range refl c.in_ok-state.ensures)
