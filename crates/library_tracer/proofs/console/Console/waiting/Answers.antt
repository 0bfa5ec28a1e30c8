use Rattle.library_tracer.proofs.ConsoleLemmas.{waiting_told}
use Rattle.library_tracer.proofs.console.Console.waiting.Goals as goal

pub returns-clause-comes : goal.returns-clause-comes
returns-clause-comes c = waiting_told c.args.path.now c.look.result c.flat.result _ _ c.flat.ensures c.look.ensures.comes
