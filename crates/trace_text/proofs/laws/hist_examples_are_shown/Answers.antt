use Rattle.trace_text.proofs.HistTextExamples.{examples-are_shown}
use Rattle.trace_text.proofs.laws.hist_examples_are_shown.Goals as goal

pub returns-clause-sums : goal.returns-clause-sums
returns-clause-sums c = examples-are_shown.sums

pub returns-clause-keys : goal.returns-clause-keys
returns-clause-keys c = examples-are_shown.keys

pub returns-clause-by_sums : goal.returns-clause-by_sums
returns-clause-by_sums c = examples-are_shown.by_sums

pub returns-clause-full : goal.returns-clause-full
returns-clause-full c = examples-are_shown.full

pub returns-clause-powers : goal.returns-clause-powers
returns-clause-powers c = examples-are_shown.powers

pub returns-clause-ranges : goal.returns-clause-ranges
returns-clause-ranges c = examples-are_shown.ranges

pub returns-clause-hex : goal.returns-clause-hex
returns-clause-hex c = examples-are_shown.hex
