use Rattle.trace_script.proofs.FirstReads.{cat_first, take_first}
use Rattle.trace_script.proofs.read.first_read.Goals as goal

pub returns-in-Some-clause-read : goal.returns-in-Some-clause-read
returns-in-Some-clause-read c =
    let found = c.in_ok-command.ensures in
    cat_first _ _ _ c.in-Some.ensures found.words c.in_ok-command.command found.bare found.short found.read

pub returns-in-Some-after_take-clause-read : goal.returns-in-Some-after_take-clause-read
returns-in-Some-after_take-clause-read c =
    let found = c.in_ok-command-2.ensures in
    take_first _ _ _ c.in-Some-after_take.ensures found.words c.in_ok-command-2.command found.bare found.short found.read
