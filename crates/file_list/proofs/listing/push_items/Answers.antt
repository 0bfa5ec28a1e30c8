use Rattle.std.proofs.Common.{arith, rules}
use Rattle.std.proofs.lemmas.Grind.{common_steps}
use Rattle.file_list.specs.Files.{item_line}
use Rattle.file_list.proofs.Lines.{one_written}
use Rattle.file_list.proofs.listing.push_items.Goals as goal

pub loop-item-preserved : goal.loop-item-preserved
loop-item-preserved c =
    one_written _ (item_line c.args.instance.now c.args.folder.now) c.args.items.now c.loop-item.item-index _ _ c.loop-item.out.items
    c.push_item.new.out.items (omega arith) (first_of (search rules, grind (arith, common_steps))) c.loop-item.invariant c.in_ok-push_item.ensures
