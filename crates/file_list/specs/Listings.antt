-- What is listed: the files that there are, a line each.
use Rattle.std.specs.Prelude.{ℕ, List, [], ◌++◌, codes}
use Rattle.std.specs.List.{flat_map}
use Rattle.file_list.specs.Files.{item_line, lines_of_instance}
use Rattle.file_list.specs.Names.{NamesSeen}
use Rattle.file_list.specs.declared.file.File.TheVariants.{SyntheticEvents}
use Rattle.file_list.specs.declared.files.Item.TheVariants as items

-- the folder of an instance
unfoldable pub instance_folder : List ℕ → List ℕ
instance_folder instance = codes "instances/" ++ instance ++ codes "/"

-- the file of all declarations, the files of the top instance, and those of each other one
unfoldable pub listing : ℕ → NamesSeen → List ℕ
listing cpus names =
    item_line [] [] (items.File SyntheticEvents) ++ lines_of_instance cpus names.events []
    ++ flat_map (λ instance. lines_of_instance cpus names.events (instance_folder instance)) names.instances
