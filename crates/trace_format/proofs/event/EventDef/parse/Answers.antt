use Rattle.trace_format.proofs.Verdicts.{read_declared, read_only, read_refused}
use Rattle.trace_format.proofs.event.EventDef.parse.Goals as goal

pub returns-clause-declared : goal.returns-clause-declared
returns-clause-declared c = read_declared c.args.text.now c.read.ensures.small c.read.result c.read.ensures.exact

pub returns-clause-only : goal.returns-clause-only
returns-clause-only c = read_only c.args.text.now c.read.ensures.small c.read.result c.read.ensures.exact

pub returns-clause-refused : goal.returns-clause-refused
returns-clause-refused c = read_refused c.args.text.now c.read.ensures.small c.read.result c.read.ensures.exact
