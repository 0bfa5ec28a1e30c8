use Rattle.std.proofs.Common.{◌≡◌, ◌++◌, drop}
use Rattle.std.specs.List.{flat_map}
use Rattle.file_list.specs.Files.{listed_below}
use Rattle.file_list.proofs.names.Names.push_instance.Given as goal

-- the lines so far, and those of the items that are left, are all
abbrev pub invariant-loop-item : goal.invariant-loop-item
invariant-loop-item l =
    l.out.items ++ flat_map (listed_below l.cpus l.self.events l.folder) (drop l.item-index l.item-items)
    ≡ l.initial.out.items ++ flat_map (listed_below l.cpus l.self.events l.folder) l.item-items
