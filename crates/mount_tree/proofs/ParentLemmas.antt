-- The folders that folders and files are in.
use Rattle.std.proofs.Common.{◌≡◌, ℕ, zero, suc, Bool, true, false, cond, List, [], ◌∷◌, ◌++◌, map, take, drop, Some, refl, subst}
use Rattle.std.specs.List.{AllByRecursion}
use Rattle.std.proofs.lemmas.Bool.{and_parts, and_from, false≢true}
use Rattle.mount_tree.specs.Children.{Child, children, cpu_child, cpu_children, event_child, file_is_there, fixed_children, folder_is_there, instance_child, is_there, made_children, node_named, owner_is_there}
use Rattle.mount_tree.specs.FolderLists.{dots, folder_list}
use Rattle.mount_tree.specs.Nodes.{top}
use Rattle.mount_tree.specs.Scenes.{SceneSeen}
use Rattle.mount_tree.specs.TreeLaws.{above}
use Rattle.file_list.specs.FileTable.{file_parent}
use Rattle.mount_tree.specs.TreeNames.{node_parent}
use Rattle.file_list.specs.declared.folder.Folder.{Folder}
use Rattle.file_list.specs.declared.folder.Folder.TheVariants as folders
use Rattle.mount_tree.specs.declared.node.Node.{Node}
use Rattle.mount_tree.specs.declared.node.Node.TheVariants as nodes
use Rattle.mount_tree.specs.declared.node.Owner.{Owner}
use Rattle.mount_tree.specs.declared.node.Owner.TheVariants.{Top, Made}
use Rattle.mount_tree.specs.declared.scene.Event.{Event}
use Rattle.mount_tree.specs.declared.scene.Instance.{Instance}
use Rattle.mount_tree.proofs.ListLemmas.{all-append}
use Rattle.mount_tree.proofs.ReachLemmas.{own_there, parent_there}
use Rattle.mount_tree.proofs.ThereLemmas.{named_one}

-- ---- lists

pub dots_first : (scene : SceneSeen) (owner : Owner) (folder : Folder) → is_there scene (nodes.Folder owner folder) ≡ true
    → take 2 (folder_list scene (nodes.Folder owner folder)) ≡ dots (nodes.Folder owner folder)
dots_first scene owner folder there = rw there refl

pub children_follow : (scene : SceneSeen) (folder : Node) → drop 2 (folder_list scene folder) ≡ children scene folder
children_follow scene (nodes.File owner file) = refl
children_follow scene (nodes.Folder owner folder) = by (is_there scene (nodes.Folder owner folder))
  where
    by : (there : Bool)
        → drop 2 (cond there (dots (nodes.Folder owner folder) ++ cond there (fixed_children owner folder ++ made_children scene owner folder) []) [])
        ≡ cond there (fixed_children owner folder ++ made_children scene owner folder) []
    by true = refl
    by false = refl

-- ---- what is found in a folder is in it

abbrev IsIn : Owner → Folder → Child → Type 0
IsIn owner folder c = node_parent c.node ≡ nodes.Folder owner folder

fixed_in : (owner : Owner) (folder : Folder) → AllByRecursion (IsIn owner folder) (fixed_children owner folder)
fixed_in Top folders.Root = (refl, (refl, (refl, (refl, (refl, (refl, (refl, (refl, (refl, (refl, (refl, (refl, (refl, (refl, (refl, (refl, (refl, (refl, (refl, (refl, (refl, (refl, (refl, (refl, tt))))))))))))))))))))))))
fixed_in (Made serial) folders.Root = (refl, (refl, (refl, (refl, (refl, (refl, (refl, (refl, (refl, (refl, (refl, (refl, (refl, (refl, (refl, (refl, (refl, tt)))))))))))))))))
fixed_in owner folders.Instances = tt
fixed_in owner folders.PerCpu = tt
fixed_in owner folders.Options = (refl, tt)
fixed_in Top folders.Events = (refl, (refl, (refl, (refl, (refl, tt)))))
fixed_in (Made serial) folders.Events = (refl, (refl, (refl, (refl, (refl, tt)))))
fixed_in Top folders.Ftrace = (refl, tt)
fixed_in (Made serial) folders.Ftrace = (refl, tt)
fixed_in Top folders.FtracePrint = (refl, tt)
fixed_in (Made serial) folders.FtracePrint = (refl, tt)
fixed_in owner folders.Synthetic = (refl, (refl, tt))
fixed_in owner (folders.Cpu cpu) = (refl, (refl, (refl, (refl, (refl, tt)))))
fixed_in owner (folders.Event event) = (refl, (refl, (refl, (refl, (refl, (refl, (refl, tt)))))))

cpu_in : (owner : Owner) (cpu : ℕ) → IsIn owner folders.PerCpu (cpu_child owner cpu)
cpu_in Top cpu = refl
cpu_in (Made serial) cpu = refl

cpus_in : (owner : Owner) (cpus : ℕ) → AllByRecursion (IsIn owner folders.PerCpu) (cpu_children owner cpus)
cpus_in owner zero = tt
cpus_in owner (suc cpu) =
    all-append (IsIn owner folders.PerCpu) (cpu_children owner cpu) (cpu_child owner cpu ∷ []) (cpus_in owner cpu) (cpu_in owner cpu, tt)

event_in : (owner : Owner) (event : Event) → IsIn owner folders.Synthetic (event_child owner event)
event_in Top event = refl
event_in (Made serial) event = refl

events_in : (owner : Owner) (events : List Event) → AllByRecursion (IsIn owner folders.Synthetic) (map (event_child owner) events)
events_in owner [] = tt
events_in owner (e ∷ events) = (event_in owner e, events_in owner events)

instances_in : (instances : List Instance) → AllByRecursion (IsIn Top folders.Instances) (map instance_child instances)
instances_in [] = tt
instances_in (i ∷ instances) = (refl, instances_in instances)

made_in : (scene : SceneSeen) (owner : Owner) (folder : Folder) → folder_is_there scene owner folder ≡ true
    → AllByRecursion (IsIn owner folder) (made_children scene owner folder)
made_in scene Top folders.Instances there = instances_in scene.instances
made_in scene (Made serial) folders.Instances there = absurd (false≢true there)
made_in scene owner folders.PerCpu there = cpus_in owner scene.cpus
made_in scene owner folders.Synthetic there = events_in owner scene.events
made_in scene owner folders.Root there = tt
made_in scene owner folders.Options there = tt
made_in scene owner folders.Events there = tt
made_in scene owner folders.Ftrace there = tt
made_in scene owner folders.FtracePrint there = tt
made_in scene owner (folders.Cpu cpu) there = tt
made_in scene owner (folders.Event event) there = tt

abbrev IsInNode : Node → Child → Type 0
IsInNode folder c = node_parent c.node ≡ folder

children_in : (scene : SceneSeen) (folder : Node) → AllByRecursion (IsInNode folder) (children scene folder)
children_in scene (nodes.File owner file) = tt
children_in scene (nodes.Folder owner folder) = by (is_there scene (nodes.Folder owner folder)) refl
  where
    by : (there : Bool) → is_there scene (nodes.Folder owner folder) ≡ there
        → AllByRecursion (IsIn owner folder) (cond there (fixed_children owner folder ++ made_children scene owner folder) [])
    by false is = tt
    by true is =
        all-append (IsIn owner folder) (fixed_children owner folder) (made_children scene owner folder)
        (fixed_in owner folder) (made_in scene owner folder (and_parts (owner_is_there scene owner) (folder_is_there scene owner folder) is).1)

pub found_in : (scene : SceneSeen) (folder node : Node) (name : List ℕ) → node_named name (children scene folder) ≡ Some node
    → node_parent node ≡ folder
found_in scene folder node name is =
    let found = named_one (IsInNode folder) name (children scene folder) node (children_in scene folder) is in
    subst (λ (n : Node). node_parent n ≡ folder) found.is found.holds

-- ---- and its folder is there

folder_parent_there : (scene : SceneSeen) (owner : Owner) (folder : Folder) → owner_is_there scene owner ≡ true
    → is_there scene (node_parent (nodes.Folder owner folder)) ≡ true
folder_parent_there scene Top folder o = top_parent folder
  where
    top_parent : (f : Folder) → is_there scene (node_parent (nodes.Folder Top f)) ≡ true
    top_parent folders.Root = refl
    top_parent folders.Instances = refl
    top_parent folders.Options = refl
    top_parent folders.PerCpu = refl
    top_parent (folders.Cpu cpu) = refl
    top_parent folders.Events = refl
    top_parent folders.Synthetic = refl
    top_parent folders.Ftrace = refl
    top_parent folders.FtracePrint = refl
    top_parent (folders.Event event) = refl
folder_parent_there scene (Made serial) folder o = made_parent folder
  where
    made_parent : (f : Folder) → is_there scene (node_parent (nodes.Folder (Made serial) f)) ≡ true
    made_parent folders.Root = refl
    made_parent folders.Instances = own_there scene (Made serial) o
    made_parent folders.Options = own_there scene (Made serial) o
    made_parent folders.PerCpu = own_there scene (Made serial) o
    made_parent (folders.Cpu cpu) = own_there scene (Made serial) o
    made_parent folders.Events = own_there scene (Made serial) o
    made_parent folders.Synthetic = own_there scene (Made serial) o
    made_parent folders.Ftrace = own_there scene (Made serial) o
    made_parent folders.FtracePrint = own_there scene (Made serial) o
    made_parent (folders.Event event) = own_there scene (Made serial) o

pub parents_there : (scene : SceneSeen) (node : Node) → is_there scene node ≡ true → is_there scene (node_parent node) ≡ true
parents_there scene (nodes.Folder owner folder) there =
    folder_parent_there scene owner folder (and_parts (owner_is_there scene owner) (folder_is_there scene owner folder) there).0
parents_there scene (nodes.File owner file) there =
    let both = and_parts (owner_is_there scene owner) (file_is_there scene owner file) there in
    and_from (owner_is_there scene owner) (folder_is_there scene owner (file_parent file)) both.0 (parent_there scene owner file both.1)

-- ---- up to the mounted folder

pub steps_end : (owner : Owner) (folder : Folder) → above 5 (nodes.Folder owner folder) ≡ top
steps_end Top folders.Root = refl
steps_end Top folders.Instances = refl
steps_end Top folders.Options = refl
steps_end Top folders.PerCpu = refl
steps_end Top (folders.Cpu cpu) = refl
steps_end Top folders.Events = refl
steps_end Top folders.Synthetic = refl
steps_end Top folders.Ftrace = refl
steps_end Top folders.FtracePrint = refl
steps_end Top (folders.Event event) = refl
steps_end (Made serial) folders.Root = refl
steps_end (Made serial) folders.Instances = refl
steps_end (Made serial) folders.Options = refl
steps_end (Made serial) folders.PerCpu = refl
steps_end (Made serial) (folders.Cpu cpu) = refl
steps_end (Made serial) folders.Events = refl
steps_end (Made serial) folders.Synthetic = refl
steps_end (Made serial) folders.Ftrace = refl
steps_end (Made serial) folders.FtracePrint = refl
steps_end (Made serial) (folders.Event event) = refl
