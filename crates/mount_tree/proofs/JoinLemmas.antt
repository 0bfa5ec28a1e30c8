-- Paths of entries.
use Rattle.std.proofs.Common.{◌≡◌, ℕ, zero, suc, eqb, Bool, true, false, ◌&&◌, cond, List, [], ◌∷◌, ◌++◌, map, Some, codes, refl, sym, ap, subst, ◌∙◌, append_assoc, append-nil}
use Rattle.std.specs.List.{AllByRecursion, find}
use Rattle.std.proofs.lemmas.Bool.{eq-eqb, false≢true}
use Rattle.file_list.specs.Files.{cpu_folder, event_folder}
use Rattle.file_list.specs.Listings.{instance_folder}
use Rattle.mount_tree.specs.Children.{Child, children, cpu_child, cpu_children, cpu_name, event_child, fixed_children, instance_child, is_there, made_children, node_named, owner_is_there}
use Rattle.mount_tree.specs.NodePaths.{owner_path, path_of}
use Rattle.mount_tree.specs.Scenes.{SceneSeen}
use Rattle.mount_tree.specs.TreeLaws.{IsSound, slash_of}
use Rattle.file_list.specs.declared.folder.Folder.{Folder}
use Rattle.file_list.specs.declared.folder.Folder.TheVariants as folders
use Rattle.mount_tree.specs.declared.node.Node.{Node}
use Rattle.mount_tree.specs.declared.node.Node.TheVariants as nodes
use Rattle.mount_tree.specs.declared.node.Owner.{Owner}
use Rattle.mount_tree.specs.declared.node.Owner.TheVariants.{Top, Made}
use Rattle.mount_tree.specs.declared.scene.Event.{Event}
use Rattle.mount_tree.specs.declared.scene.Instance.{Instance}
use Rattle.mount_tree.proofs.ListLemmas.{all-append, all-map, all-weaker, self_found}
use Rattle.mount_tree.proofs.ThereLemmas.{named_one}

-- the path of an entry is that of its folder, its name, and a slash if it is a folder
abbrev IsJoined : SceneSeen → List ℕ → Child → Type 0
IsJoined scene path c = path_of scene c.node ≡ path ++ c.name ++ slash_of c.node

file_join : (path name : List ℕ) → path ++ name ≡ path ++ name ++ []
file_join path name = sym (append-nil (path ++ name))

folder_join : (owner folder name whole : List ℕ) → folder ++ (name ++ codes "/") ≡ whole → owner ++ whole ≡ owner ++ folder ++ name ++ codes "/"
folder_join owner folder name whole is =
    ap (λ (w : List ℕ). owner ++ w) (sym is)
    ∙ sym (append_assoc owner folder (name ++ codes "/"))
    ∙ sym (append_assoc (owner ++ folder) name (codes "/"))

-- ---- what a folder always has

fixed_joined : (scene : SceneSeen) (owner : Owner) (folder : Folder)
    → AllByRecursion (IsJoined scene (path_of scene (nodes.Folder owner folder))) (fixed_children owner folder)
fixed_joined scene Top folders.Root = (refl, (refl, (refl, (refl, (refl, (refl, (refl, (refl, (refl, (refl, (refl, (refl, (refl, (refl, (refl, (refl, (refl, (refl, (refl, (refl, (refl, (refl, (refl, (refl, tt))))))))))))))))))))))))
fixed_joined scene (Made serial) folders.Root =
    let o = owner_path scene (Made serial) in (file_join (o ++ []) (codes "snapshot"), (file_join (o ++ []) (codes "tracing_on"), (file_join (o ++ []) (codes "trace"), (file_join (o ++ []) (codes "trace_pipe"), (folder_join o [] (codes "options") (codes "options/") refl, (file_join (o ++ []) (codes "trace_options"), (folder_join o [] (codes "events") (codes "events/") refl, (folder_join o [] (codes "per_cpu") (codes "per_cpu/") refl, (file_join (o ++ []) (codes "available_tracers"), (file_join (o ++ []) (codes "current_tracer"), (file_join (o ++ []) (codes "set_event"), (file_join (o ++ []) (codes "trace_clock"), (file_join (o ++ []) (codes "timestamp_mode"), (file_join (o ++ []) (codes "buffer_size_kb"), (file_join (o ++ []) (codes "buffer_total_size_kb"), (file_join (o ++ []) (codes "tracing_cpumask"), (file_join (o ++ []) (codes "error_log"), tt)))))))))))))))))
fixed_joined scene owner folders.Instances = tt
fixed_joined scene owner folders.PerCpu = tt
fixed_joined scene owner folders.Options = (file_join (owner_path scene owner ++ codes "options/") (codes "overwrite"), tt)
fixed_joined scene owner folders.Events = (
  file_join (owner_path scene owner ++ codes "events/") (codes "enable"),
  (
    folder_join (owner_path scene owner) (codes "events/") (codes "synthetic") (codes "events/synthetic/") refl,
    (
      folder_join (owner_path scene owner) (codes "events/") (codes "ftrace") (codes "events/ftrace/") refl,
      (
        file_join (owner_path scene owner ++ codes "events/") (codes "header_page"),
        (file_join (owner_path scene owner ++ codes "events/") (codes "header_event"), tt),
      ),
    ),
  ),
)
fixed_joined scene owner folders.Ftrace =
    (folder_join (owner_path scene owner) (codes "events/ftrace/") (codes "print") (codes "events/ftrace/print/") refl, tt)
fixed_joined scene owner folders.FtracePrint = (file_join (owner_path scene owner ++ codes "events/ftrace/print/") (codes "format"), tt)
fixed_joined scene owner folders.Synthetic = (
  file_join (owner_path scene owner ++ codes "events/synthetic/") (codes "enable"),
  (file_join (owner_path scene owner ++ codes "events/synthetic/") (codes "filter"), tt),
)
fixed_joined scene owner (folders.Cpu cpu) =
    let path = owner_path scene owner ++ cpu_folder cpu in
    (file_join path (codes "stats"), (file_join path (codes "trace"), (file_join path (codes "trace_pipe"), (file_join path (codes "buffer_size_kb"), (file_join path (codes "trace_pipe_raw"), tt)))))
fixed_joined scene owner (folders.Event event) =
    let path = path_of scene (nodes.Folder owner (folders.Event event)) in (
      file_join path (codes "format"),
      (
        file_join path (codes "enable"),
        (
          file_join path (codes "filter"),
          (
            file_join path (codes "trigger"),
            (
              file_join path (codes "hist"),
              (file_join path (codes "inject"), (file_join path (codes "id"), tt)),
            ),
          ),
        ),
      ),
    )

-- ---- CPUs, events and instances

cpu_whole : (cpu : ℕ) → codes "per_cpu/" ++ (cpu_name cpu ++ codes "/") ≡ cpu_folder cpu
unfolding cpu_name cpu_folder
cpu_whole cpu = refl

cpus_joined : (scene : SceneSeen) (owner : Owner) (cpus : ℕ)
    → AllByRecursion (IsJoined scene (path_of scene (nodes.Folder owner folders.PerCpu))) (cpu_children owner cpus)
cpus_joined scene owner zero = tt
cpus_joined scene owner (suc cpu) =
    all-append (IsJoined scene (path_of scene (nodes.Folder owner folders.PerCpu))) (cpu_children owner cpu) (cpu_child owner cpu ∷ [])
    (cpus_joined scene owner cpu)
    (folder_join (owner_path scene owner) (codes "per_cpu/") (cpu_name cpu) (cpu_folder cpu) (cpu_whole cpu), tt)

event_whole : (name : List ℕ) → codes "events/synthetic/" ++ (name ++ codes "/") ≡ event_folder name
unfolding event_folder
event_whole name = refl

instance_whole : (name : List ℕ) → codes "instances/" ++ (name ++ codes "/") ≡ instance_folder name
unfolding instance_folder
instance_whole name = refl

events_joined : (scene : SceneSeen) (owner : Owner) → IsSound scene
    → AllByRecursion (IsJoined scene (path_of scene (nodes.Folder owner folders.Synthetic))) (map (event_child owner) scene.events)
events_joined scene owner sound =
    let path = path_of scene (nodes.Folder owner folders.Synthetic) in
    all-map (IsJoined scene path) (event_child owner) scene.events
    (all-weaker (λ (e : Event). find (λ (f : Event). eqb f.index e.index) scene.events ≡ Some e) (λ (e : Event). IsJoined scene path (event_child owner e)) scene.events
    (λ e found. rw found (folder_join (owner_path scene owner) (codes "events/synthetic/") e.name (event_folder e.name) (event_whole e.name)))
    (self_found eqb (λ (e : Event). e.index) scene.events (λ k. eq-eqb k k refl) sound.distinct_indexes))

instances_joined : (scene : SceneSeen) → IsSound scene
    → AllByRecursion (IsJoined scene (codes "instances/")) (map instance_child scene.instances)
instances_joined scene sound =
    all-map (IsJoined scene (codes "instances/")) instance_child scene.instances
    (all-weaker (λ (i : Instance). find (λ (j : Instance). eqb j.serial i.serial) scene.instances ≡ Some i) (λ (i : Instance). IsJoined scene (codes "instances/") (instance_child i)) scene.instances
    (λ i found. rw found (append-nil (instance_folder i.name) ∙ sym (instance_whole i.name) ∙ sym (append_assoc (codes "instances/") i.name (codes "/"))))
    (self_found eqb (λ (i : Instance). i.serial) scene.instances (λ k. eq-eqb k k refl) sound.distinct_serials))

and_false : (b : Bool) → (b && false) ≡ false
and_false true = refl
and_false false = refl

made_joined : (scene : SceneSeen) (owner : Owner) (folder : Folder) → IsSound scene → is_there scene (nodes.Folder owner folder) ≡ true
    → AllByRecursion (IsJoined scene (path_of scene (nodes.Folder owner folder))) (made_children scene owner folder)
made_joined scene Top folders.Instances sound there = instances_joined scene sound
made_joined scene (Made serial) folders.Instances sound there =
    absurd (false≢true (sym (and_false (owner_is_there scene (Made serial))) ∙ there))
made_joined scene owner folders.PerCpu sound there = cpus_joined scene owner scene.cpus
made_joined scene owner folders.Synthetic sound there = events_joined scene owner sound
made_joined scene owner folders.Root sound there = tt
made_joined scene owner folders.Options sound there = tt
made_joined scene owner folders.Events sound there = tt
made_joined scene owner folders.Ftrace sound there = tt
made_joined scene owner folders.FtracePrint sound there = tt
made_joined scene owner (folders.Cpu cpu) sound there = tt
made_joined scene owner (folders.Event event) sound there = tt

children_joined : (scene : SceneSeen) (folder : Node) → IsSound scene → AllByRecursion (IsJoined scene (path_of scene folder)) (children scene folder)
children_joined scene (nodes.File owner file) sound = tt
children_joined scene (nodes.Folder owner folder) sound = by (is_there scene (nodes.Folder owner folder)) refl
  where
    by : (there : Bool) → is_there scene (nodes.Folder owner folder) ≡ there
        → AllByRecursion (IsJoined scene (path_of scene (nodes.Folder owner folder)))
        (cond there (fixed_children owner folder ++ made_children scene owner folder) [])
    by false is = tt
    by true is =
        all-append (IsJoined scene (path_of scene (nodes.Folder owner folder))) (fixed_children owner folder) (made_children scene owner folder)
        (fixed_joined scene owner folder) (made_joined scene owner folder sound is)

pub found_joined : (scene : SceneSeen) (folder node : Node) (name : List ℕ) → IsSound scene → node_named name (children scene folder) ≡ Some node
    → path_of scene node ≡ path_of scene folder ++ name ++ slash_of node
found_joined scene folder node name sound is =
    let found = named_one (IsJoined scene (path_of scene folder)) name (children scene folder) node (children_joined scene folder sound) is in
    subst (λ (n : Node). path_of scene n ≡ path_of scene folder ++ name ++ slash_of n) found.is
    (subst (λ (called : List ℕ). path_of scene found.entry.node ≡ path_of scene folder ++ called ++ slash_of found.entry.node) found.named found.holds)
