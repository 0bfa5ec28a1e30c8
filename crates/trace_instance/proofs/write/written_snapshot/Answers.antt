use Rattle.std.proofs.Common.{rules}
use Rattle.trace_instance.proofs.Snapshotting.{snapshot-busy, snapshot-empties, snapshot-frees, snapshot-takes}
use Rattle.trace_instance.proofs.write.written_snapshot.Goals as goal

pub returns-in-Some-eq0-clause-change : goal.returns-in-Some-eq0-clause-change
returns-in-Some-eq0-clause-change c = λ g name past append stands.
    snapshot-busy g name past append c.args.text.now c.args.instance.now stands (search rules) (search rules)

pub returns-in-Some-eq0-2-clause-change : goal.returns-in-Some-eq0-2-clause-change
returns-in-Some-eq0-2-clause-change c = λ g name past append stands.
    snapshot-frees g name past append c.args.text.now c.args.instance.now stands (search rules) (search rules)

pub returns-in-Some-eq1-clause-change : goal.returns-in-Some-eq1-clause-change
returns-in-Some-eq1-clause-change c = λ g name past append stands.
    snapshot-takes g name past append c.args.text.now (search rules)

pub returns-in-Some-clause-change : goal.returns-in-Some-clause-change
returns-in-Some-clause-change c = λ g name past append stands.
    snapshot-empties g name past append c.args.text.now c.in-Some.field-0 (search rules) (search rules) (search rules)
