use Rattle.std.proofs.Common.{◌≡◌, ◌++◌}
use Rattle.file_list.specs.Files.{lines_of_cpus}
use Rattle.file_list.proofs.listing.push_cpus.Given as goal

-- the lines of the CPUs before this one are written
abbrev pub invariant-loop-cpu : goal.invariant-loop-cpu
invariant-loop-cpu l = l.out.items ≡ l.initial.out.items ++ lines_of_cpus l.instance l.cpu
