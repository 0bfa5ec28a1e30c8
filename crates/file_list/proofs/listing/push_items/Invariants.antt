use Rattle.std.proofs.Common.{◌≡◌, ◌++◌, drop}
use Rattle.file_list.specs.Files.{lines_in}
use Rattle.file_list.proofs.listing.push_items.Given as goal

-- the lines so far, and those of the items that are left, are all
abbrev pub invariant-loop-item : goal.invariant-loop-item
invariant-loop-item l =
    l.out.items ++ lines_in l.instance l.folder (drop l.item-index l.items) ≡ l.initial.out.items ++ lines_in l.instance l.folder l.items
