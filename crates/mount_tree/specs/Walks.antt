-- A walk through a mounted tracer, and the lines that `tracectl --list` prints of it.
use Rattle.std.specs.Prelude.{◌≡◌, ℕ, zero, suc, if◌then◌else◌, List, [], map}
use Rattle.std.specs.List.{flat_map}
use Rattle.file_list.specs.FileTable.{is_listed}
use Rattle.file_list.specs.Files.{line_of}
use Rattle.file_list.specs.Listings.{listing}
use Rattle.file_list.specs.Names.{NamesSeen}
use Rattle.mount_tree.specs.Children.{Child, children}
use Rattle.file_list.specs.FileKinds.{access_of_file}
use Rattle.mount_tree.specs.NodePaths.{path_of}
use Rattle.mount_tree.specs.Nodes.{top}
use Rattle.mount_tree.specs.Scenes.{SceneSeen}
use Rattle.mount_tree.specs.TreeLaws.{IsSound}
use Rattle.file_list.specs.declared.file.File.{File}
use Rattle.mount_tree.specs.declared.node.Node.{Node}
use Rattle.mount_tree.specs.declared.node.Node.TheVariants as nodes
use Rattle.mount_tree.specs.declared.node.Owner.{Owner}
use Rattle.mount_tree.specs.declared.scene.Event.{Event}
use Rattle.mount_tree.specs.declared.scene.Instance.{Instance}

-- the line of a file in a list: how it can be used, and its path. The files that no script has have no line.
abbrev pub line_in : SceneSeen → Owner → File → List ℕ
line_in scene owner file = if is_listed file then line_of (access_of_file file) (path_of scene (nodes.File owner file)) else []

-- the lines of the files below a node, folder by folder, down to so many folders
abbrev pub lines_below : SceneSeen → ℕ → Node → List ℕ
lines_below scene zero node = []
lines_below scene (suc depth) (nodes.File owner file) = line_in scene owner file
lines_below scene (suc depth) (nodes.Folder owner folder) =
    flat_map (λ (c : Child). lines_below scene depth c.node) (children scene (nodes.Folder owner folder))

-- the names of a scene
abbrev pub scene_names : SceneSeen → NamesSeen
scene_names scene = record {
  events = map (λ (e : Event). e.name) scene.events;
  instances = map (λ (i : Instance). i.name) scene.instances;
  gone = [];
}

-- A walk through all folders finds the files that `tracectl --list` lists, each once, in its order and to be used as it says. The deepest are seven
-- steps down, with the mounted folder: `instances`, NAME, `events`, `synthetic`, EVENT, the file.
abbrev pub TreesAreListed : Type 0
TreesAreListed = (scene : SceneSeen) → IsSound scene → lines_below scene 7 top ≡ listing scene.cpus (scene_names scene)
