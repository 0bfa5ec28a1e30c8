use Rattle.std.proofs.Common.{ℕ, List, subst}
use Rattle.trace_command.specs.declared.command.CommandOf.TheVariants.{Read}
use Rattle.library_tracer.specs.Consoles.{Comes, says}
use Rattle.library_tracer.proofs.ReadLemmas.{reads}
use Rattle.library_tracer.proofs.console.Console.read.Goals as goal

pub returns-clause-comes : goal.returns-clause-comes
returns-clause-comes c =
    let limit = c.args.limit in
    let before = c.args.self.now in
    let after = c.run.new.self in
    reads c.args.path.now limit before after c.run.result
    (subst (λ (path : List ℕ). Comes (says (Read path limit)) before after c.run.result) c.new-path.ensures c.run.ensures.comes)
