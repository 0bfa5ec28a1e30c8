use Rattle.script_reader.proofs.PartReading.{added}
use Rattle.script_reader.proofs.part.add_command.Goals as goal

pub returns : goal.returns
returns c = record {
  added =
      added c.args.threads.now.items c.pop.new.self.items c.push-2.new.self.items c.in-Some.own c.push.new.self c.args.asked c.in-Some.ensures.items
      c.in_ok-push-2.ensures.items c.in_ok-push.ensures.items;
}
