-- Each file of the top instance that commands name is one of the tree's.
use Rattle.std.specs.Prelude.{◌≡◌, ◌<◌, ⊤, List, ℕ, true, Some, is_some}
use Rattle.std.specs.List.{find}
use Rattle.std.specs.Str.{bytes_eq}
use Rattle.trace_command.specs.Paths as paths
use Rattle.file_list.specs.declared.file.File.{File}
use Rattle.mount_tree.specs.Children.{is_there}
use Rattle.mount_tree.specs.NodePaths.{file_meant}
use Rattle.mount_tree.specs.Scenes.{SceneSeen}
use Rattle.mount_tree.specs.TreeLaws.{IsSound}
use Rattle.mount_tree.specs.declared.node.Node.TheVariants as nodes
use Rattle.mount_tree.specs.declared.node.Owner.TheVariants.{Top}
use Rattle.mount_tree.specs.declared.scene.Event.{Event}

-- the CPU or the event of a file is there
abbrev pub HasFile : SceneSeen → paths.File → Type 0
HasFile scene (paths.OfCpu cpu file) = cpu < scene.cpus
HasFile scene (paths.OfEvent name file) = is_some (find (λ (e : Event). bytes_eq e.name name) scene.events) ≡ true
HasFile scene _ = ⊤

-- a file of the top instance that is there and that commands know as this one
pub record IsOfTree (scene : SceneSeen) (named : paths.File) : Type 0 where
  pub file : File
  pub there : is_there scene (nodes.File Top file) ≡ true
  pub means : file_meant scene file ≡ Some named

abbrev pub FilesAreOfTheTree : Type 0
FilesAreOfTheTree = (scene : SceneSeen) (named : paths.File) → IsSound scene → HasFile scene named → IsOfTree scene named
