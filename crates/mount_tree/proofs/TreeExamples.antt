-- The examples, computed.
use Rattle.std.proofs.Common.{refl}
use Rattle.std.specs.Fmt.{digits}
use Rattle.file_list.specs.Files.{cpu_folder, event_folder}
use Rattle.file_list.specs.Listings.{instance_folder}
use Rattle.mount_tree.specs.Children.{cpu_name}
use Rattle.mount_tree.specs.Nodes.{number_of}
use Rattle.mount_tree.specs.TreeExamples.{ListsOfFolders, ListsWithDots, LookUps, NumbersAndPaths, SecondOfItsName}

pub second-of_its_name : SecondOfItsName
second-of_its_name = (refl, refl)

pub lists : ListsOfFolders
unfolding cpu_name digits
lists = (refl, refl, refl, refl)

pub lists_with_dots : ListsWithDots
lists_with_dots = (refl, refl, refl, refl, refl)

pub look_ups : LookUps
unfolding cpu_name digits
look_ups = (refl, refl, refl, refl, refl, refl, refl, refl, refl, refl, refl, refl, refl)

pub numbers : NumbersAndPaths
unfolding cpu_folder digits event_folder instance_folder number_of
numbers = (refl, refl, refl, refl, refl, refl)
