-- The number of a folder or file: what a file system tells of it, and by which it is asked for it again. It is a function of what is named: whose it
-- is, its kind and the CPU or event.
use Rattle.std.specs.Prelude.{ℕ, ◌+◌, ◌*◌, ◌<◌, ◌≤◌, ◌^◌}
use Rattle.file_list.specs.FileTable.{file_index, file_row, folder_index, folder_row}
use Rattle.file_list.specs.declared.file.File.{File}
use Rattle.file_list.specs.declared.folder.Folder.TheVariants.{Root}
use Rattle.mount_tree.specs.declared.node.Node.{Node}
use Rattle.mount_tree.specs.declared.node.Node.TheVariants as nodes
use Rattle.mount_tree.specs.declared.node.Owner.{Owner}
use Rattle.mount_tree.specs.declared.node.Owner.TheVariants.{Top, Made}

-- whose it is: 0 for the top instance, and one more than how many instances were made before for another
abbrev pub owner_number : Owner → ℕ
owner_number Top = 0
owner_number (Made serial) = serial + 1

-- the kind: its row in the table of folders, or in that of files after those
abbrev pub file_place : File → ℕ
file_place file = 10 + file_row file

abbrev pub owner_of : Node → Owner
owner_of (nodes.Folder owner folder) = owner
owner_of (nodes.File owner file) = owner

abbrev pub index_of : Node → ℕ
index_of (nodes.Folder owner folder) = folder_index folder
index_of (nodes.File owner file) = file_index file

abbrev pub place_of : Node → ℕ
place_of (nodes.Folder owner folder) = folder_row folder
place_of (nodes.File owner file) = file_place file

-- the mounted folder
abbrev pub top : Node
top = nodes.Folder Top Root

-- the number of a node: that of the mounted folder is 1
abbrev pub number_from : ℕ → ℕ → ℕ → ℕ
number_from owner index place = (owner * 256 + index) * 64 + place + 1

unfoldable pub number_of : Node → ℕ
number_of node = number_from (owner_number (owner_of node)) (index_of node) (place_of node)

-- the numbers in it fit their types
pub record FitsItsTypes (node : Node) : Type 0 where
  pub owner : owner_number (owner_of node) ≤ 2 ^ 32
  pub index : index_of node < 2 ^ 8
