-- The node of an owner that is of a kind, for the CPU or event at an index where the kind has one.
use Rattle.std.specs.Prelude.{ℕ, ◌-◌, nat_lt, if◌then◌else◌, Option}
use Rattle.std.specs.Option.{option_map}
use Rattle.file_list.specs.FileTable.{file_at, file_of, folder_at, folder_of}
use Rattle.file_list.specs.declared.file.File.{File}
use Rattle.file_list.specs.declared.folder.Folder.{Folder}
use Rattle.mount_tree.specs.declared.node.Node.{Node}
use Rattle.mount_tree.specs.declared.node.Node.TheVariants as nodes
use Rattle.mount_tree.specs.declared.node.Owner.{Owner}

abbrev pub node_at : Owner → ℕ → ℕ → Option Node
node_at owner index place =
    if nat_lt place 10 then option_map (λ (folder : Folder). nodes.Folder owner (folder_of index folder)) (folder_at place)
    else option_map (λ (file : File). nodes.File owner (file_of index file)) (file_at (place - 10))
