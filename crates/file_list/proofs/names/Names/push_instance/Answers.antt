use Rattle.std.proofs.Common.{arith, rules}
use Rattle.std.proofs.lemmas.Grind.{common_steps}
use Rattle.file_list.specs.Files.{listed_below}
use Rattle.file_list.proofs.Lines.{one_written}
use Rattle.file_list.proofs.names.Names.push_instance.Goals as goal

pub loop-item-preserved : goal.loop-item-preserved
loop-item-preserved c =
    one_written _ (listed_below c.args.cpus c.args.self.now.events c.args.folder.now) c.items-item-items.result.now
    c.loop-item.item-index _ _ c.loop-item.out.items c.push_below.new.out.items (omega arith) (first_of (search rules, grind (arith, common_steps)))
    c.loop-item.invariant c.in_ok-push_below.ensures
