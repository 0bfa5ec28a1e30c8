-- What is found in a folder is there.
use Rattle.std.proofs.Common.{◌≡◌, ℕ, zero, suc, ◌≤◌, Bool, true, false, ◌&&◌, nat_lt, cond, List, [], ◌∷◌, ◌++◌, map, Some, is_some, refl, subst, arith}
use Rattle.std.specs.List.{AllByRecursion, find}
use Rattle.std.specs.Str.{bytes_eq}
use Rattle.std.proofs.lemmas.Bool.{lt-ltb, and_parts, and_from}
use Rattle.std.proofs.lemmas.Slice.Eq.{bytes_eq-Decides}
use Rattle.trace_lex.proofs.Options.{map_some}
use Rattle.mount_tree.specs.Children.{Child, children, cpu_child, cpu_children, event_child, fixed_children, folder_is_there, instance_child, is_there, made_children, node_named, owner_is_there}
use Rattle.mount_tree.specs.Scenes.{SceneSeen, event_at, instance_at}
use Rattle.file_list.specs.declared.folder.Folder.{Folder}
use Rattle.file_list.specs.declared.folder.Folder.TheVariants as folders
use Rattle.mount_tree.specs.declared.node.Node.{Node}
use Rattle.mount_tree.specs.declared.node.Node.TheVariants as nodes
use Rattle.mount_tree.specs.declared.node.Owner.{Owner}
use Rattle.mount_tree.specs.declared.node.Owner.TheVariants.{Top, Made}
use Rattle.mount_tree.specs.declared.scene.Event.{Event}
use Rattle.mount_tree.specs.declared.scene.Instance.{Instance}
use Rattle.mount_tree.proofs.ListLemmas.{all-append, all-map, all-weaker, found_each, found_one, found_passes}

-- the entry that a look-up found
pub record IsNamed (Q : Child → Type 0) (name : List ℕ) (node : Node) : Type 0 where
  pub entry : Child
  pub holds : Q entry
  pub named : entry.name ≡ name
  pub is : entry.node ≡ node

pub named_one : (Q : Child → Type 0) (name : List ℕ) (entries : List Child) (node : Node) → AllByRecursion Q entries → node_named name entries ≡ Some node
    → IsNamed Q name node
named_one Q name entries node all is =
    let found = map_some (λ (c : Child). c.node) (find (λ (c : Child). bytes_eq c.name name) entries) node is in record {
      entry = found.value;
      holds = found_one Q (λ (c : Child). bytes_eq c.name name) entries found.value all found.was;
      named = (bytes_eq-Decides found.value.name name).0 (found_passes (λ (c : Child). bytes_eq c.name name) entries found.value found.was);
      is = found.gives;
    }

abbrev IsEntryThere : SceneSeen → Child → Type 0
IsEntryThere scene c = is_there scene c.node ≡ true

-- ---- what a folder always has

own_there : (scene : SceneSeen) (owner : Owner) → owner_is_there scene owner ≡ true → (owner_is_there scene owner && true) ≡ true
own_there scene owner is = rw is refl

fixed_there : (scene : SceneSeen) (owner : Owner) (folder : Folder) → owner_is_there scene owner ≡ true → folder_is_there scene owner folder ≡ true
    → AllByRecursion (IsEntryThere scene) (fixed_children owner folder)
fixed_there scene Top folders.Root o f = (refl, (refl, (refl, (refl, (refl, (refl, (refl, (refl, (refl, (refl, (refl, (refl, (refl, (refl, (refl, (refl, (refl, (refl, (refl, (refl, (refl, (refl, (refl, (refl, tt))))))))))))))))))))))))
fixed_there scene (Made serial) folders.Root o f =
    let w = own_there scene (Made serial) o in (w, (w, (w, (w, (w, (w, (w, (w, (w, (w, (w, (w, (w, (w, (w, (w, (w, tt)))))))))))))))))
fixed_there scene owner folders.Instances o f = tt
fixed_there scene owner folders.PerCpu o f = tt
fixed_there scene owner folders.Options o f = let w = own_there scene owner o in (w, tt)
fixed_there scene owner folders.Events o f = let w = own_there scene owner o in (w, (w, (w, (w, (w, tt)))))
fixed_there scene owner folders.Ftrace o f = let w = own_there scene owner o in (w, tt)
fixed_there scene owner folders.FtracePrint o f = let w = own_there scene owner o in (w, tt)
fixed_there scene owner folders.Synthetic o f = let w = own_there scene owner o in (w, (w, tt))
fixed_there scene owner (folders.Cpu cpu) o f =
    let w = and_from (owner_is_there scene owner) (nat_lt cpu scene.cpus) o f in (w, (w, (w, (w, (w, tt)))))
fixed_there scene owner (folders.Event event) o f =
    let w = and_from (owner_is_there scene owner) (is_some (event_at event scene.events)) o f in (w, (w, (w, (w, (w, (w, (w, tt)))))))

-- ---- CPUs, events and instances

cpus_there : (scene : SceneSeen) (owner : Owner) (cpus : ℕ) → cpus ≤ scene.cpus → owner_is_there scene owner ≡ true
    → AllByRecursion (IsEntryThere scene) (cpu_children owner cpus)
cpus_there scene owner zero few o = tt
cpus_there scene owner (suc cpu) few o =
    all-append (IsEntryThere scene) (cpu_children owner cpu) (cpu_child owner cpu ∷ []) (cpus_there scene owner cpu (omega arith) o)
    (and_from (owner_is_there scene owner) (nat_lt cpu scene.cpus) o (lt-ltb cpu scene.cpus (omega arith)), tt)

events_there : (scene : SceneSeen) (owner : Owner) → owner_is_there scene owner ≡ true
    → AllByRecursion (IsEntryThere scene) (map (event_child owner) scene.events)
events_there scene owner o =
    all-map (IsEntryThere scene) (event_child owner) scene.events
    (all-weaker (λ (e : Event). is_some (event_at e.index scene.events) ≡ true) (λ (e : Event). IsEntryThere scene (event_child owner e)) scene.events
    (λ e found. and_from (owner_is_there scene owner) (is_some (event_at e.index scene.events)) o found)
    (found_each (λ (e : Event). e.index) scene.events scene.events (λ k found. found)))

instances_there : (scene : SceneSeen) → AllByRecursion (IsEntryThere scene) (map instance_child scene.instances)
instances_there scene =
    all-map (IsEntryThere scene) instance_child scene.instances
    (all-weaker (λ (i : Instance). is_some (instance_at i.serial scene.instances) ≡ true) (λ (i : Instance). IsEntryThere scene (instance_child i)) scene.instances
    (λ i found. and_from (is_some (instance_at i.serial scene.instances)) true found refl)
    (found_each (λ (i : Instance). i.serial) scene.instances scene.instances (λ k found. found)))

made_there : (scene : SceneSeen) (owner : Owner) (folder : Folder) → owner_is_there scene owner ≡ true
    → AllByRecursion (IsEntryThere scene) (made_children scene owner folder)
made_there scene owner folders.Instances o = instances_there scene
made_there scene owner folders.PerCpu o = cpus_there scene owner scene.cpus (omega arith) o
made_there scene owner folders.Synthetic o = events_there scene owner o
made_there scene owner folders.Root o = tt
made_there scene owner folders.Options o = tt
made_there scene owner folders.Events o = tt
made_there scene owner folders.Ftrace o = tt
made_there scene owner folders.FtracePrint o = tt
made_there scene owner (folders.Cpu cpu) o = tt
made_there scene owner (folders.Event event) o = tt

-- ---- all of them

pub children_there : (scene : SceneSeen) (folder : Node) → AllByRecursion (IsEntryThere scene) (children scene folder)
children_there scene (nodes.File owner file) = tt
children_there scene (nodes.Folder owner folder) = by (is_there scene (nodes.Folder owner folder)) refl
  where
    by : (there : Bool) → is_there scene (nodes.Folder owner folder) ≡ there
        → AllByRecursion (IsEntryThere scene) (cond there (fixed_children owner folder ++ made_children scene owner folder) [])
    by false is = tt
    by true is =
        let both = and_parts (owner_is_there scene owner) (folder_is_there scene owner folder) is in
        all-append (IsEntryThere scene) (fixed_children owner folder) (made_children scene owner folder)
        (fixed_there scene owner folder both.0 both.1) (made_there scene owner folder both.0)

pub found_there : (scene : SceneSeen) (folder node : Node) (name : List ℕ) → node_named name (children scene folder) ≡ Some node
    → is_there scene node ≡ true
found_there scene folder node name is =
    let found = named_one (IsEntryThere scene) name (children scene folder) node (children_there scene folder) is in
    subst (λ (n : Node). is_there scene n ≡ true) found.is found.holds
