use Rattle.trace_instance.proofs.Lookups.{table_emptied}
use Rattle.trace_instance.proofs.tables.Table.ask.Goals as goal

pub returns-in-Clear-clause-asked : goal.returns-in-Clear-clause-asked
returns-in-Clear-clause-asked c =
    let clear = c.clear.ensures in
    table_emptied c.args.action c.args.self.now.hist c.clear.new.self c.in-Clear.is clear.spec clear.paused clear.stands
