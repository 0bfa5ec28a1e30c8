use Rattle.std.proofs.Common.{◌≡◌, ◌++◌, drop}
use Rattle.std.specs.List.{flat_map}
use Rattle.file_list.specs.Files.{lines_of_instance}
use Rattle.file_list.specs.Listings.{instance_folder}
use Rattle.file_list.proofs.names.Names.push_instances.Given as goal

-- the lines so far, and those of the instances that are left, are all
abbrev pub invariant-loop-instance : goal.invariant-loop-instance
invariant-loop-instance l =
    l.out.items ++ flat_map (λ instance. lines_of_instance l.cpus l.self.events (instance_folder instance)) (drop l.instance-index l.instance-items)
    ≡ l.initial.out.items ++ flat_map (λ instance. lines_of_instance l.cpus l.self.events (instance_folder instance)) l.instance-items
