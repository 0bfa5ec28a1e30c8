-- What a list of a folder shows, as `ls -a` prints it: `.` and `..` before its entries. No look-up asks for these two: a kernel knows them by itself.
use Rattle.std.specs.Prelude.{if◌then◌else◌, List, [], ◌∷◌, ◌++◌, codes}
use Rattle.mount_tree.specs.Children.{Child, children, is_there}
use Rattle.mount_tree.specs.Scenes.{SceneSeen}
use Rattle.mount_tree.specs.TreeNames.{node_parent}
use Rattle.mount_tree.specs.declared.node.Node.{Node}
use Rattle.mount_tree.specs.declared.node.Node.TheVariants as nodes

-- a folder itself, and the folder that it is in
abbrev pub dots : Node → List Child
dots folder = record { name = codes "."; node = folder } ∷ record { name = codes ".."; node = node_parent folder } ∷ []

-- what the list of a node shows, in order: nothing, if it is no folder or is not there
abbrev pub folder_list : SceneSeen → Node → List Child
folder_list scene (nodes.Folder owner folder) =
    if is_there scene (nodes.Folder owner folder) then dots (nodes.Folder owner folder) ++ children scene (nodes.Folder owner folder) else []
folder_list scene (nodes.File owner file) = []
