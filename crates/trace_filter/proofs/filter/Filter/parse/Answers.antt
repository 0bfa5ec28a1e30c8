use Rattle.trace_filter.proofs.FilterLemmas.{parse_read, parse_only, parse_refused, parse_told}
use Rattle.trace_filter.proofs.filter.Filter.parse.Goals as goal

pub returns-clause-read : goal.returns-clause-read
returns-clause-read c = parse_read c.args.def.now c.args.text.now c.read.result c.read.ensures.exact c.read.ensures.definition

pub returns-clause-only : goal.returns-clause-only
returns-clause-only c = parse_only c.args.def.now c.args.text.now c.read.result c.read.ensures.exact

pub returns-clause-refused : goal.returns-clause-refused
returns-clause-refused c = parse_refused c.args.def.now c.args.text.now c.read.result c.read.ensures.exact

pub returns-clause-told : goal.returns-clause-told
returns-clause-told c = parse_told c.args.def.now c.args.text.now c.read.result c.read.ensures.exact
