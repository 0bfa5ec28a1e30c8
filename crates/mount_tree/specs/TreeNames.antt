-- The folders that folders and files are in.
use Rattle.file_list.specs.FileTable.{file_parent, folder_parent}
use Rattle.file_list.specs.declared.folder.Folder.{Folder}
use Rattle.file_list.specs.declared.folder.Folder.TheVariants.{Root, Instances}
use Rattle.mount_tree.specs.declared.node.Node.{Node}
use Rattle.mount_tree.specs.declared.node.Node.TheVariants as nodes
use Rattle.mount_tree.specs.declared.node.Owner.{Owner}
use Rattle.mount_tree.specs.declared.node.Owner.TheVariants.{Top, Made}

-- an instance's own folder is in `instances`, and the mounted one in itself
abbrev pub in_parent : Owner → Folder → Node
in_parent (Made serial) Root = nodes.Folder Top Instances
in_parent owner folder = nodes.Folder owner (folder_parent folder)

abbrev pub node_parent : Node → Node
node_parent (nodes.Folder owner folder) = in_parent owner folder
node_parent (nodes.File owner file) = nodes.Folder owner (file_parent file)
