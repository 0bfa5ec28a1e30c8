use Rattle.library_tracer.proofs.MaskLemmas.{wanted_seen}
use Rattle.library_tracer.proofs.console.Console.wanted.Goals as goal

pub returns-clause-comes : goal.returns-clause-comes
returns-clause-comes c = wanted_seen _ _ c.look.result c.look.ensures.comes
