-- Which folders and files there are in a mounted tracer (docs/FILES.md), and the entries of each folder, in the order of `tracectl --list`.
use Rattle.std.specs.Prelude.{ℕ, zero, suc, Bool, true, false, ◌&&◌, nat_lt, is_some, if◌then◌else◌, List, [], ◌∷◌, ◌++◌, map, Option, codes}
use Rattle.std.specs.Fmt.{decimal}
use Rattle.std.specs.List.{find}
use Rattle.std.specs.Option.{option_map}
use Rattle.std.specs.Str.{bytes_eq}
use Rattle.file_list.specs.FileTable.{file_name, file_of, file_parent, folder_index, folder_name, folder_of, items_of}
use Rattle.file_list.specs.declared.file.File.{File}
use Rattle.file_list.specs.declared.file.File.TheVariants.{SyntheticEvents, OfTop}
use Rattle.file_list.specs.declared.files.Item.{Item}
use Rattle.file_list.specs.declared.files.Item.TheVariants as items
use Rattle.file_list.specs.declared.folder.Folder.{Folder}
use Rattle.file_list.specs.declared.folder.Folder.TheVariants as folders
use Rattle.mount_tree.specs.Scenes.{SceneSeen, event_at, instance_at}
use Rattle.mount_tree.specs.declared.node.Node.{Node}
use Rattle.mount_tree.specs.declared.node.Node.TheVariants as nodes
use Rattle.mount_tree.specs.declared.node.Owner.{Owner}
use Rattle.mount_tree.specs.declared.node.Owner.TheVariants.{Top, Made}
use Rattle.mount_tree.specs.declared.scene.Event.{Event}
use Rattle.mount_tree.specs.declared.scene.Instance.{Instance}

-- ---- what is there

abbrev pub is_top : Owner → Bool
is_top Top = true
is_top (Made serial) = false

abbrev pub owner_is_there : SceneSeen → Owner → Bool
owner_is_there scene Top = true
owner_is_there scene (Made serial) = is_some (instance_at serial scene.instances)

abbrev pub folder_is_there : SceneSeen → Owner → Folder → Bool
folder_is_there scene owner folders.Instances = is_top owner
folder_is_there scene owner (folders.Cpu cpu) = nat_lt cpu scene.cpus
folder_is_there scene owner (folders.Event event) = is_some (event_at event scene.events)
folder_is_there scene owner _ = true

-- a file is there where its folder is, but that of the declarations and some that tools ask for only at the top
abbrev pub file_is_there : SceneSeen → Owner → File → Bool
file_is_there scene owner SyntheticEvents = is_top owner
file_is_there scene owner (OfTop file) = is_top owner
file_is_there scene owner file = folder_is_there scene owner (file_parent file)

abbrev pub is_there : SceneSeen → Node → Bool
is_there scene (nodes.Folder owner folder) = owner_is_there scene owner && folder_is_there scene owner folder
is_there scene (nodes.File owner file) = owner_is_there scene owner && file_is_there scene owner file

-- ---- the entries of a folder

pub record Child : Type 0 where
  pub name : List ℕ
  pub node : Node

abbrev pub folder_child : Owner → List ℕ → Folder → Child
folder_child owner name folder = record { name = name; node = nodes.Folder owner folder }

-- what a row of a folder's list stands for, in the folder of this CPU or event
abbrev pub item_child : Owner → ℕ → Item → Child
item_child owner index (items.Folder folder) = folder_child owner (folder_name folder) (folder_of index folder)
item_child owner index (items.File file) = record { name = file_name file; node = nodes.File owner (file_of index file) }

-- what a folder has always
abbrev pub fixed_children : Owner → Folder → List Child
fixed_children owner folder = map (item_child owner (folder_index folder)) (items_of folder (is_top owner))

-- `cpuN`
unfoldable pub cpu_name : ℕ → List ℕ
cpu_name cpu = codes "cpu" ++ decimal cpu

abbrev pub cpu_child : Owner → ℕ → Child
cpu_child owner cpu = folder_child owner (cpu_name cpu) (folders.Cpu cpu)

-- the folders of so many CPUs
abbrev pub cpu_children : Owner → ℕ → List Child
cpu_children owner zero = []
cpu_children owner (suc cpu) = cpu_children owner cpu ++ cpu_child owner cpu ∷ []

abbrev pub event_child : Owner → Event → Child
event_child owner event = folder_child owner event.name (folders.Event event.index)

abbrev pub instance_child : Instance → Child
instance_child instance = folder_child (Made instance.serial) instance.name folders.Root

-- what a folder has for the CPUs, events and instances that there are
abbrev pub made_children : SceneSeen → Owner → Folder → List Child
made_children scene owner folders.Instances = map instance_child scene.instances
made_children scene owner folders.PerCpu = cpu_children owner scene.cpus
made_children scene owner folders.Synthetic = map (event_child owner) scene.events
made_children scene owner _ = []

-- the entries of what a node names, in order: none, if it is no folder or is not there
abbrev pub children : SceneSeen → Node → List Child
children scene (nodes.Folder owner folder) =
    if is_there scene (nodes.Folder owner folder) then fixed_children owner folder ++ made_children scene owner folder else []
children scene (nodes.File owner file) = []

-- the node of a name among entries
abbrev pub node_named : List ℕ → List Child → Option Node
node_named name entries = option_map (λ (c : Child). c.node) (find (λ (c : Child). bytes_eq c.name name) entries)
