-- What the numbers, entries and paths of nodes come to, and what requests do to a scene.
use Rattle.std.specs.Prelude.{◌≡◌, ◌≢◌, ℕ, zero, suc, nat_eq, ◌<◌, ◌≤◌, true, false, List, [], ◌∷◌, ◌++◌, map, take, drop, Some, None, codes}
use Rattle.std.specs.List.{AllByRecursion, IsDistinct, filter}
use Rattle.std.specs.Str.{bytes_eq}
use Rattle.trace_command.specs.Paths.{address_of}
use Rattle.trace_command.specs.Requests.{Request}
use Rattle.trace_command.specs.declared.command.Config.{Config}
use Rattle.trace_format.specs.Catalogs.{AreEvents}
use Rattle.trace_format.specs.Definitions.{Definition}
use Rattle.tracer_specification.specs.Pasts.{AreDone}
use Rattle.tracer_specification.specs.Settings.{declared_events, declares, instance_names, made, removed}
use Rattle.trace_lex.specs.Names.{is_name}
use Rattle.mount_tree.specs.Children.{Child, children, is_there, node_named}
use Rattle.mount_tree.specs.FolderLists.{dots, folder_list}
use Rattle.mount_tree.specs.NodePaths.{address_meant, path_of}
use Rattle.mount_tree.specs.Nodes.{FitsItsTypes, number_of, owner_of, top}
use Rattle.mount_tree.specs.Scenes.{SceneSeen, has_folder, with_event, with_instance, without_instance}
use Rattle.mount_tree.specs.ScenesAfter.{events_after, instances_after, made_after, scene_after}
use Rattle.mount_tree.specs.TreeNames.{node_parent}
use Rattle.file_list.specs.declared.file.File.{File}
use Rattle.file_list.specs.declared.folder.Folder.{Folder}
use Rattle.file_list.specs.declared.folder.Folder.TheVariants as folders
use Rattle.mount_tree.specs.declared.node.Node.{Node}
use Rattle.mount_tree.specs.declared.node.Node.TheVariants as nodes
use Rattle.mount_tree.specs.declared.node.Owner.{Owner}
use Rattle.mount_tree.specs.declared.node.Owner.TheVariants.{Made}
use Rattle.mount_tree.specs.declared.scene.Event.{Event}
use Rattle.mount_tree.specs.declared.scene.Instance.{Instance}

-- ---- numbers

-- two nodes of one number are the same
abbrev pub NumbersNameNodes : Type 0
NumbersNameNodes = (a b : Node) → FitsItsTypes a → FitsItsTypes b → number_of a ≡ number_of b → a ≡ b

-- ---- requests

-- the instances that are there are those of tracer_specification, each with its number
abbrev pub NamesGoWithSerials : Type 0
NamesGoWithSerials = (past : List Request) → map (λ (i : Instance). i.name) (instances_after past) ≡ instance_names past

-- the events are those of tracer_specification, but for those that have no folder
abbrev pub EventsAreDeclared : Type 0
EventsAreDeclared =
    (past : List Request) → map (λ (e : Event). e.name) (events_after past) ≡ filter has_folder (map (λ (d : Definition). d.name) (declared_events past))

-- what a request does to the scene
abbrev pub MakingAddsAnInstance : Type 0
MakingAddsAnInstance =
    (cpus : ℕ) (past : List Request) (request : Request) (name : List ℕ) → made request ≡ Some name
    → scene_after cpus (request ∷ past) ≡ with_instance name (scene_after cpus past)

abbrev pub RemovingTakesItOut : Type 0
RemovingTakesItOut =
    (cpus : ℕ) (past : List Request) (request : Request) (name : List ℕ) → removed request ≡ Some name
    → scene_after cpus (request ∷ past) ≡ without_instance name (scene_after cpus past)

abbrev pub DeclaringAddsAnEvent : Type 0
DeclaringAddsAnEvent =
    (cpus : ℕ) (past : List Request) (request : Request) (event : Definition) → declares request ≡ Some event
    → scene_after cpus (request ∷ past) ≡ with_event event.name (scene_after cpus past)

abbrev pub OthersLeaveTheScene : Type 0
OthersLeaveTheScene =
    (cpus : ℕ) (past : List Request) (request : Request) → made request ≡ None → removed request ≡ None → declares request ≡ None
    → scene_after cpus (request ∷ past) ≡ scene_after cpus past

-- A node of an instance that was made and is not there any more is never there again, whatever is done later: not even if an instance of the same
-- name is made.
abbrev pub RemovedNodesAreGone : Type 0
RemovedNodesAreGone =
    (cpus : ℕ) (later past : List Request) (node : Node) (serial : ℕ) → owner_of node ≡ Made serial → serial < made_after past
    → is_there (scene_after cpus past) (nodes.Folder (Made serial) folders.Root) ≡ false
    → is_there (scene_after cpus (later ++ past)) node ≡ false

-- ---- entries

-- what is found in a folder is there
abbrev pub FoundNodesAreThere : Type 0
FoundNodesAreThere =
    (scene : SceneSeen) (folder node : Node) (name : List ℕ) → node_named name (children scene folder) ≡ Some node → is_there scene node ≡ true

-- The events and instances of a scene have names, and no two have one name or one number.
pub record IsSound (scene : SceneSeen) : Type 0 where
  pub few_cpus : scene.cpus ≤ 8
  pub event_names : AllByRecursion (λ (e : Event). is_name e.name ≡ true) scene.events
  pub folders : AllByRecursion (λ (e : Event). has_folder e.name ≡ true) scene.events
  pub distinct_events : IsDistinct bytes_eq (map (λ (e : Event). e.name) scene.events)
  pub distinct_indexes : IsDistinct nat_eq (map (λ (e : Event). e.index) scene.events)
  pub instance_names : AllByRecursion (λ (i : Instance). is_name i.name ≡ true) scene.instances
  pub distinct_instances : IsDistinct bytes_eq (map (λ (i : Instance). i.name) scene.instances)
  pub distinct_serials : IsDistinct nat_eq (map (λ (i : Instance). i.serial) scene.instances)

-- The requests that were done leave a scene so. That no two events have one name is what a tracer keeps of them (`AreEvents`).
abbrev pub ScenesAreSound : Type 0
ScenesAreSound =
    (g : Config) (past : List Request) → g.cpus ≤ 8 → AreDone g past → AreEvents [] (declared_events past)
    → IsSound (scene_after g.cpus past)

-- a list has each name once, and a look-up of it finds just what is listed
abbrev pub ListsAreLookups : Type 0
ListsAreLookups =
    (scene : SceneSeen) (folder : Node) → IsSound scene
    → IsDistinct bytes_eq (map (λ (c : Child). c.name) (children scene folder))
    × AllByRecursion (λ (c : Child). node_named c.name (children scene folder) ≡ Some c.node) (children scene folder)

-- a look-up of some name in the folder finds the node
pub record IsFoundIn (scene : SceneSeen) (folder node : Node) : Type 0 where
  pub name : List ℕ
  pub found : node_named name (children scene folder) ≡ Some node

-- and all that is there, but the mounted folder itself, is found in the folder that it is in
abbrev pub NodesAreFound : Type 0
NodesAreFound =
    (scene : SceneSeen) (node : Node) → IsSound scene → is_there scene node ≡ true → node ≢ top → IsFoundIn scene (node_parent node) node

-- ---- `.` and `..`

-- the list of a folder that is there begins with itself and the folder that it is in
abbrev pub DotsComeFirst : Type 0
DotsComeFirst =
    (scene : SceneSeen) (owner : Owner) (folder : Folder) → is_there scene (nodes.Folder owner folder) ≡ true
    → take 2 (folder_list scene (nodes.Folder owner folder)) ≡ dots (nodes.Folder owner folder)

-- and goes on with what look-ups find in it
abbrev pub ChildrenFollow : Type 0
ChildrenFollow = (scene : SceneSeen) (folder : Node) → drop 2 (folder_list scene folder) ≡ children scene folder

-- it has each name once: nothing else is called `.` or `..`
abbrev pub ListsHaveNamesOnce : Type 0
ListsHaveNamesOnce =
    (scene : SceneSeen) (folder : Node) → IsSound scene → IsDistinct bytes_eq (map (λ (c : Child). c.name) (folder_list scene folder))

-- `..` leads back: what is found in a folder is in that folder
abbrev pub FoundNodesAreIn : Type 0
FoundNodesAreIn =
    (scene : SceneSeen) (folder node : Node) (name : List ℕ) → node_named name (children scene folder) ≡ Some node → node_parent node ≡ folder

-- the folder that something is in is there with it
abbrev pub ParentsAreThere : Type 0
ParentsAreThere = (scene : SceneSeen) (node : Node) → is_there scene node ≡ true → is_there scene (node_parent node) ≡ true

-- so many steps up
abbrev pub above : ℕ → Node → Node
above zero node = node
above (suc steps) node = above steps (node_parent node)

-- five steps up from any folder are the mounted one, the one that stays where it is
abbrev pub StepsUpEnd : Type 0
StepsUpEnd = (owner : Owner) (folder : Folder) → above 5 (nodes.Folder owner folder) ≡ top

-- ---- paths

abbrev pub slash_of : Node → List ℕ
slash_of (nodes.Folder owner folder) = codes "/"
slash_of (nodes.File owner file) = []

-- the path of what is found in a folder is the folder's and the name, and a slash if it is a folder
abbrev pub PathsAreJoined : Type 0
PathsAreJoined =
    (scene : SceneSeen) (folder node : Node) (name : List ℕ) → IsSound scene → node_named name (children scene folder) ≡ Some node
    → path_of scene node ≡ path_of scene folder ++ name ++ slash_of node

-- the path of a file that is there names that file of that instance
abbrev pub PathsNameTheirFiles : Type 0
PathsNameTheirFiles =
    (scene : SceneSeen) (owner : Owner) (file : File) → IsSound scene → is_there scene (nodes.File owner file) ≡ true
    → address_of (path_of scene (nodes.File owner file)) ≡ address_meant scene owner file
