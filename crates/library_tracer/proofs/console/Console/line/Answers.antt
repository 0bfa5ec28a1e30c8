use Rattle.library_tracer.proofs.MaskLemmas.{run_line, told_line}
use Rattle.library_tracer.proofs.console.Console.line.Goals as goal

pub returns-in-Ok-clause-comes : goal.returns-in-Ok-clause-comes
returns-in-Ok-clause-comes c =
    run_line c.args.line.now c.prepare.result _ c.in-Ok.command _ _ _ _ _ c.prepare.ensures c.in-Ok.ensures.asks c.run_masked.ensures.comes c.run_masked.ensures.masked

pub returns-clause-comes : goal.returns-clause-comes
returns-clause-comes c =
    told_line c.args.line.now c.prepare.result _ c.in-Err.outcome _ _ _ _ c.prepare.ensures c.in-Err.ensures.tells (rw c.told_words-words.ensures at c.told.ensures.comes)
